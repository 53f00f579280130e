use Rattle.std.proofs.Common.{◌≡◌, ◌≤◌, ◌<◌, [], length, ap, sym, ◌∙◌, subst, refl}
use Rattle.std.specs.Prelude.{false}
use Rattle.std.specs.List.{AllByRecursion}
use Rattle.sml_objects.specs.Views.{maker_of}
use Rattle.sml_graph.specs.Asked.{Asked, count}
use Rattle.sml_schemes.specs.Fixed.{AreFixed, AreMarks, places_of}
use Rattle.sml_graph.specs.Changes.{AreCovered, AreInside}
use Rattle.sml_demands.specs.CodeLevels.{AreHandedBut, HandsLevels, IsKeptWith}
use Rattle.sml_solve.proofs.Fixing.{flags-are, places-inside}
use Rattle.sml_demands.proofs.Levelling.{handed-covered, levels-handed}
use Rattle.sml_solve.proofs.solver.fixed_flags.Goals as goal

pub hand_levels_on-requires-clause-but : goal.hand_levels_on-requires-clause-but
hand_levels_on-requires-clause-but c =
    let ns = c.solver.inside.graph.nodes.items in
    let ls = c.solver.inside.levels.items in
    let is = c.solver.inside.left.items in
    let ps = c.in_ok-pending.pending.items in
    let spent : c.solver.inside.spent ≡ false = ap (λ (s : Asked). s.spent) c.solver.view_is ∙ c.requires.kept in
    let k = c.solver.invariant spent in
    let p : AreCovered is ps = rw c.replace-left.ensures.value at c.in_ok-pending.ensures.covers in
    let b : AreHandedBut ns ls ps = handed-covered ns ls is ps p k.levels.handed in
    rw c.as_slice-2.ensures.value b

pub hand_levels_on-requires-clause-inside : goal.hand_levels_on-requires-clause-inside
hand_levels_on-requires-clause-inside c =
    let ns = c.solver.inside.graph.nodes.items in
    let is = c.solver.inside.left.items in
    let spent : c.solver.inside.spent ≡ false = ap (λ (s : Asked). s.spent) c.solver.view_is ∙ c.requires.kept in
    let k = c.solver.invariant spent in
    let old : AreInside (length ns) c.replace-left.result.items = rw c.replace-left.ensures.value k.levels.inside in
    rw c.as_slice-2.ensures.value (c.in_ok-pending.ensures.inside (length ns) old)

pub places-requires : goal.places-requires
places-requires c =
    let us = c.solver.inside.unknowns.items in
    let ws = c.args.others.now in
    let o : AllByRecursion (λ w. w < length us) ws = subst (λ s. AllByRecursion (λ w. w < count s) ws) (sym c.solver.view_is) c.requires.others in
    rw c.as_slice-unknowns.ensures.value o

pub marks_from-requires-clause-inside : goal.marks_from-requires-clause-inside
marks_from-requires-clause-inside c =
    let us = c.solver.inside.unknowns.items in
    let ns = c.solver.inside.graph.nodes.items in
    let ws = c.args.others.now in
    let spent : c.solver.inside.spent ≡ false = ap (λ (s : Asked). s.spent) c.solver.view_is ∙ c.requires.kept in
    let k = (c.solver.invariant spent).kept in
    let o : AllByRecursion (λ w. w < length us) ws = subst (λ s. AllByRecursion (λ w. w < count s) ws) (sym c.solver.view_is) c.requires.others in
    let e : c.as_slice-3.result.now ≡ places_of us ws = c.as_slice-3.ensures.value ∙ (c.in_ok-from.ensures ∙ ap (λ xs. places_of xs ws) c.as_slice-unknowns.ensures.value) in
    rw (e, c.as_slice-nodes.ensures.value) (places-inside (length ns) us ws k.owners.inside o)

pub held_unknowns-requires-clause-inside : goal.held_unknowns-requires-clause-inside
held_unknowns-requires-clause-inside c =
    let spent : c.solver.inside.spent ≡ false = ap (λ (s : Asked). s.spent) c.solver.view_is ∙ c.requires.kept in
    rw (c.as_slice-nodes.ensures.value, c.as_slice-unknowns.ensures.value) (c.solver.invariant spent).kept.owners.inside

pub invariant_of-solver-2 : goal.invariant_of-solver-2
invariant_of-solver-2 c _ =
    let us = c.solver.inside.unknowns.items in
    let ns = c.solver.inside.graph.nodes.items in
    let ls = c.solver.inside.levels.items in
    let is = c.solver.inside.left.items in
    let ks = c.hand_levels_on.new.levels.items in
    let spent : c.solver.inside.spent ≡ false = ap (λ (s : Asked). s.spent) c.solver.view_is ∙ c.requires.kept in
    let k = c.solver.invariant spent in
    let x : HandsLevels ns ls ks = rw c.as_slice-2.ensures.value at c.in_ok-hand_levels_on.ensures in
    record { kept = k.kept; levels = levels-handed ns us is c.replace-left.new.dest.items ls ks k.levels x (rw c.replace-left.ensures.after c.new.ensures.items) }

pub returns-clause-flags : goal.returns-clause-flags
returns-clause-flags c =
    let u = maker_of c.solver.inside.unit in
    let us = c.solver.inside.unknowns.items in
    let g = c.solver.inside.graph in
    let b = c.solver.inside.spent in
    let ls = c.solver.inside.levels.items in
    let is = c.solver.inside.left.items in
    let ks = c.hand_levels_on.new.levels.items in
    let n = c.args.first in
    let ws = c.args.others.now in
    let ms = c.in_ok-marks.marks.items in
    let spent : b ≡ false = ap (λ (s : Asked). s.spent) c.solver.view_is ∙ c.requires.kept in
    let old = c.solver.invariant spent in
    let z : HandsLevels g.nodes.items ls ks = rw c.as_slice-2.ensures.value at c.in_ok-hand_levels_on.ensures in
    let k : IsKeptWith u g us ks [] = record { kept = old.kept; levels = levels-handed g.nodes.items us is [] ls ks old.levels z refl } in
    let h : n ≤ length us = subst (λ s. n ≤ count s) (sym c.solver.view_is) c.requires.first in
    let o : AllByRecursion (λ w. w < length us) ws = subst (λ s. AllByRecursion (λ w. w < count s) ws) (sym c.solver.view_is) c.requires.others in
    let e : c.as_slice-3.result.now ≡ places_of us ws = c.as_slice-3.ensures.value ∙ (c.in_ok-from.ensures ∙ ap (λ xs. places_of xs ws) c.as_slice-unknowns.ensures.value) in
    let x : AreMarks g.nodes.items (places_of us ws) ms = rw (e, c.as_slice-nodes.ensures.value) at c.in_ok-marks.ensures in
    let y = rw (c.as_slice-nodes.ensures.value, c.as_slice-unknowns.ensures.value, c.as_slice-levels.ensures.value, c.as_slice-4.ensures.value) at c.in_ok-flags.ensures in
    subst (λ s. AreFixed s n ws c.in_ok-flags.flags.items) c.solver.view_is (flags-are u us g b ks k n ws h o ms c.in_ok-flags.flags.items x y)
