use Rattle.std.proofs.Common.{◌≡◌, ℕ, ◌<◌, ◌∷◌, [], ◌++◌, inl, inr, None, length, drop, arith, sym, ◌∙◌, ap, subst, refl}
use Rattle.std.proofs.lemmas.List.{get_or_default}
use Rattle.std.specs.Vec.{vec_len}
use Rattle.sml_graph.specs.Graphs.{node_at, parts}
use Rattle.sml_graph.specs.Changes.{AreInside}
use Rattle.sml_demands.specs.CodeLevels.{level_of, level_at, AreHandedBut, LowersLevels}
use Rattle.sml_graph.proofs.Changing.{all-rest}
use Rattle.sml_graph.proofs.Interning.{parts-inside}
use Rattle.sml_graph.proofs.Limiting.{front-inside}
use Rattle.sml_graph.proofs.Searching.{read_at}
use Rattle.sml_demands.proofs.Levelling.{padded, handed-still, left-still, fixed-self, but-lower, from-lower}
use Rattle.sml_demands.proofs.levels.hand_levels_on.Goals as goal

pub loop-change-init : goal.loop-change-init
loop-change-init c =
    let ns = c.args.nodes.now in
    let old = c.args.levels.now.items in
    let new = c.resize.new.self.items in
    let len : length new ≡ length ns = omega (arith, c.in_ok-resize.ensures.len) in
    let same : (i : ℕ) → level_at new i ≡ level_at old i = padded old new (vec_len c.args.levels.now) (length ns) (omega arith) (omega (arith, c.requires.within)) len c.in_ok-resize.ensures.by_index.0 (λ k d a b. c.in_ok-resize.ensures.by_index.1 k d refl a b) in
    record {
      len = len;
      inside = rw len c.requires.inside;
      but = λ i.
          elim (c.requires.but i) [
            | inl h ↦ inl (handed-still old new i (node_at ns i) (λ k. let z = same k in omega (arith, z)) (same i) h)
            | inr m ↦ inr (left-still old new i (node_at ns i) c.args.pending.items (λ k. let z = same k in omega (arith, z)) (same i) m)
          ];
      under = λ i. let z = same i in omega (arith, z);
      from = λ i. (i, same i, fixed-self ns i);
    }

pub index-level-requires : goal.index-level-requires
index-level-requires c =
    let i = c.loop-change.invariant in
    let inside : AreInside (length c.loop-change.levels.items) (c.pop.new.self.items ++ c.in-Some.change ∷ []) = rw c.in-Some.ensures.items at i.inside in
    let l = (front-inside (λ d. d.node < length c.loop-change.levels.items) c.pop.new.self.items c.in-Some.change inside).1 in
    omega (arith, l)

pub bounds-nodes-change : goal.bounds-nodes-change
bounds-nodes-change c =
    let i = c.loop-change.invariant in
    let inside : AreInside (length c.loop-change.levels.items) (c.pop.new.self.items ++ c.in-Some.change ∷ []) = rw c.in-Some.ensures.items at i.inside in
    let l = (front-inside (λ d. d.node < length c.loop-change.levels.items) c.pop.new.self.items c.in-Some.change inside).1 in
    let n = i.len in
    omega (arith, l, n)

pub lower_levels-requires : goal.lower_levels-requires
lower_levels-requires c =
    let ns = c.args.nodes.now in
    let d = c.in-Some.change in
    let i = c.loop-change.invariant in
    let inside : AreInside (length c.loop-change.levels.items) (c.pop.new.self.items ++ d ∷ []) = rw c.in-Some.ensures.items at i.inside in
    let l : d.node < length ns = rw i.len at (front-inside (λ d. d.node < length c.loop-change.levels.items) c.pop.new.self.items d inside).1 in
    let n : node_at ns d.node ≡ c.index-nodes-change.result = read_at ns d.node c.index-nodes-change.result l c.index-nodes-change.is in
    rw (i.len, c.parts_from-parts.ensures, ← n) (all-rest (λ k. k < length ns) d.from (parts (node_at ns d.node)) (parts-inside (length ns) d.node (node_at ns d.node) l (c.requires.sound d.node)))

pub loop-change-preserved : goal.loop-change-preserved
loop-change-preserved c =
    let ns = c.args.nodes.now in
    let d = c.in-Some.change in
    let old = c.args.levels.now.items in
    let ls = c.loop-change.levels.items in
    let ms = c.lower_levels.new.levels.items in
    let is = c.pop.new.self.items in
    let js = c.lower_levels.new.pending.items in
    let i = c.loop-change.invariant in
    let inside : AreInside (length ls) (is ++ d ∷ []) = rw c.in-Some.ensures.items at i.inside in
    let front = front-inside (λ c. c.node < length ls) is d inside in
    let l : d.node < length ns = rw i.len at front.1 in
    let n : node_at ns d.node ≡ c.index-nodes-change.result = read_at ns d.node c.index-nodes-change.result l c.index-nodes-change.is in
    let a : level_of c.index-level.result.now ≡ level_at ls d.node = ap level_of (c.index-level.ensures ∙ sym (get_or_default ls d.node None _ front.1)) in
    let b : AreHandedBut ns ls (is ++ d ∷ []) = rw c.in-Some.ensures.items at i.but in
    let new = drop d.from (parts c.index-nodes-change.result) in
    let x : LowersLevels ls is new (level_at ls d.node) ms js = subst (λ n. LowersLevels ls is new n ms js) a (rw c.parts_from-parts.ensures at c.in_ok-lower_levels.ensures) in
    let low : LowersLevels ls is (drop d.from (parts (node_at ns d.node))) (level_at ls d.node) ms js = rw n x in
    record {
      len = low.len ∙ i.len;
      inside = rw low.len (low.inside front.0);
      but = but-lower ns ls ms is js d b low;
      under = λ k. let p = low.under k in let q = i.under k in omega (arith, p, q);
      from = from-lower ns old ls ms is js d.node d.from i.from low;
    }
