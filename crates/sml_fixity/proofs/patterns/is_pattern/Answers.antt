use Rattle.std.proofs.Common.{◌≡◌, ◌+◌, false, Option, None, unwrap_or, List, get_or, drop, sym, ap, ◌∙◌}
use Rattle.std.specs.Prelude.{option_map}
use Rattle.std.proofs.lemmas.List.{at_drop_more, at_drop_all}
use Rattle.sml_fixity.specs.declared.roles.Role.{Role}
use Rattle.sml_fixity.specs.declared.roles.Role.TheVariants.{Atom}
use Rattle.sml_fixity.specs.declared.patterns.Run.{Run}
use Rattle.sml_fixity.specs.Patterns.{names_of}
use Rattle.sml_fixity.specs.CodeRuns.{runs, next_run}
use Rattle.sml_fixity.proofs.Shapes.{decided}
use Rattle.sml_fixity.proofs.patterns.is_pattern.Goals as goal

pub returns-in-None : goal.returns-in-None
returns-in-None c =
    let roles = c.args.roles.now in
    let names = names_of c.args.items.now in
    let i = c.loop-role.role-index in
    let run = c.loop-role.run in
    let m = at_drop_more (λ (w : List Role). runs names w run) roles i (Atom 0) c.loop-role-test.true in
    let n : next_run names (get_or roles i (Atom 0)) run ≡ None = sym c.in-None.ensures in
    let f = ap (λ (o : Option Run). unwrap_or (option_map (runs names (drop (i + 1) roles)) o) false) n in
    decided names roles false (sym (sym c.loop-role.invariant ∙ m ∙ f))

pub returns : goal.returns
returns c =
    let roles = c.args.roles.now in
    let names = names_of c.args.items.now in
    let run = c.loop-role.run in
    let m = at_drop_all (λ (w : List Role). runs names w run) roles c.loop-role.role-index c.loop-role-test.false in
    decided names roles _ (sym m ∙ c.loop-role.invariant)
