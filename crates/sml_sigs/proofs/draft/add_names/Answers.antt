use Rattle.std.proofs.Common.{ap, ◌∙◌, map, take, get_or, ◌∷◌, []}
use Rattle.std.proofs.lemmas.List.{map-append}
use Rattle.std.proofs.lemmas.Grind.{take_at_read}
use Rattle.sml_objects.specs.Views.{name_of}
use Rattle.sml_objects.specs.declared.objects.Initial.TheVariants as I
use Rattle.sml_objects.specs.declared.objects.TyName.TheVariants as T
use Rattle.sml_objects.proofs.Appearances.{collected, inserted-first, unchanged}
use Rattle.sml_sigs.proofs.draft.add_names.Goals as goal

pub loop-name-init : goal.loop-name-init
loop-name-init c = unchanged (map name_of c.args.set.now.keys)

pub loop-name-preserved : goal.loop-name-preserved
loop-name-preserved c =
    let xs = c.args.names.now in
    let first = T.Initial I.Int in
    let i = c.loop-name.name-index in
    let x = get_or xs i first in
    collected (map name_of c.args.set.now.keys) _ _ _ _ _ c.loop-name.invariant
    (inserted-first x c.loop-name.set.keys c.insert.new.self.keys c.in_ok-insert.ensures.keys)
    (ap (map name_of) (take_at_read xs i first c.loop-name-test.true).1 ∙ map-append name_of (take i xs) (x ∷ []))
