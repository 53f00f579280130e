use Rattle.std.proofs.Common.{◌≡◌, ◌↔◌, ℕ, ◌<◌, ◌+◌, ◌++◌, ◌∷◌, [], true, false, inl, inr, length, get_or, ap, sym, ◌∙◌, subst, arith, length-append}
use Rattle.std.proofs.lemmas.Bool.{cases_lt}
use Rattle.std.proofs.lemmas.List.{get_or_push}
use Rattle.sml_graph.specs.Graphs.{IsSame}
use Rattle.sml_demands.specs.CodeLevels.{IsHeld}
use Rattle.sml_graph.proofs.Interning.{get_or-left}
use Rattle.sml_demands.proofs.levels.held_unknowns.Goals as goal
use Rattle.sml_demands.proofs.levels.held_unknowns.Goals.{then-has_older, else-has_older}

pub loop-index-preserved : goal.loop-index-preserved
loop-index-preserved c =
    let l = c.loop-index.invariant in
    let fs = c.loop-index.flags.items in
    let n = c.loop-index.index in
    let r = c.root_of-root.result in
    let ls = c.args.levels.now in
    let ms = c.args.marks.now in
    let x = c.if-has_older.push in
    let e : c.push.new.self.items ≡ fs ++ x ∷ [] = c.in_ok-push.ensures.items in
    let len = l.len in
    let old : (v : ℕ) → v < n → get_or c.push.new.self.items v false ≡ get_or fs v false = λ v h. ap (λ xs. get_or xs v false) e ∙ get_or-left fs (x ∷ []) v false (omega (arith, h, len)) in
    let new : (v : ℕ) → v ≡ n → get_or c.push.new.self.items v false ≡ x = λ v q. ap (λ xs. get_or xs v false) e ∙ get_or_push fs x false v (omega (arith, q, len)) in
    let held : (x ≡ true) ↔ IsHeld ls c.args.first ms r =
    elim c.if-has_older.branch [
      | then-has_older w ↦ (λ _. inl (c.has_older.ensures.0 w.if-has_older.true), λ _. w.push-is ∙ w.if-has_older.true)
      | else-has_older w ↦ (
        λ m. inr (sym w.has_mark.ensures ∙ (sym w.push-is ∙ m)),
        λ z.
            elim z [
              | inl a ↦ let q : true ≡ false = sym (c.has_older.ensures.1 a) ∙ w.if-has_older.false in absurd cc
              | inr d ↦ w.push-is ∙ (w.has_mark.ensures ∙ d)
            ],
      )
    ] in
    record {
      len = let a : length c.push.new.self.items ≡ length fs + 1 = ap length e ∙ simp length-append in omega (arith, a, len);
      first = λ v h. let a = c.loop-index.auto.index in old v (omega (arith, h, a)) ∙ l.first v h;
      each = λ v a h.
          elim (cases_lt v n) [
            | inl i ↦ let w = l.each v a i in (w.0, w.1, w.2, (λ m. w.3.0 (sym (old v i) ∙ m), λ z. old v i ∙ w.3.1 z))
            | inr i ↦
                let q : v ≡ n = omega (arith, h, i) in
                (r, subst (λ k. IsSame c.args.nodes.now (get_or c.args.unknowns.now k 0) r) (sym q) c.root_of-root.ensures.same, c.root_of-root.ensures.root, (λ m. held.0 (sym (new v q) ∙ m), λ z. new v q ∙ held.1 z))
          ];
    }
