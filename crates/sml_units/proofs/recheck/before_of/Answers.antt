use Rattle.std.proofs.Common.{◌≡◌, Some, length, refl, sym, subst}
use Rattle.std.specs.Prelude.{slice_get}
use Rattle.std.proofs.lemmas.Option.{slice_get_read}
use Rattle.sml_units.specs.Complete.{AreComplete}
use Rattle.sml_units.proofs.Complete.{complete_at}
use Rattle.sml_units.proofs.recheck.before_of.Goals as goal

pub returns : goal.returns
returns c = λ us made.
    let old = c.args.old.now in
    let k = c.in_ok-place.place in
    let s = c.in_ok-source.source.now in
    let r = c.in_ok-unit.unit.now in
    let source = subst (λ l. slice_get l k ≡ Some s) c.deref.ensures.value
    (slice_get_read c.deref.result.now _ k s refl c.in_ok-source.ensures.lookup.3.0 c.in_ok-source.ensures.lookup.1) in
    let unit = subst (λ l. slice_get l k ≡ Some r) c.deref-2.ensures.value
    (slice_get_read c.deref-2.result.now _ k r refl c.in_ok-unit.ensures.lookup.3.0 c.in_ok-unit.ensures.lookup.1) in
    subst (λ t. AreComplete t c.as_slice-3.result.now) (sym c.as_slice.ensures.value)
    (subst (AreComplete s.text.items) (sym c.as_slice-3.ensures.value)
    (complete_at k (length old.kept.items) us old.sources.items old.replies.units.items s r made.texts made.replies source unit))
