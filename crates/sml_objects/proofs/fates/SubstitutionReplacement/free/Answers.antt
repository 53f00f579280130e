use Rattle.std.proofs.Common.{◌≡◌, ap, sym, ◌∙◌}
use Rattle.sml_objects.specs.Fates.{seen_type, type_or}
use Rattle.sml_objects.specs.Objects as O
use Rattle.sml_objects.specs.Types.{index_among}
use Rattle.sml_objects.specs.Views.{type_of}
use Rattle.sml_objects.specs.declared.objects.MlType.{Free}
use Rattle.sml_objects.proofs.TypeViews.{type_of-free}
use Rattle.sml_objects.proofs.TypeCopies.{shared-type}
use Rattle.sml_objects.proofs.Closings.{place-found, place-missing}
use Rattle.sml_objects.proofs.FatesOfVariables.{standing-at, standing-past}
use Rattle.sml_objects.proofs.fates.SubstitutionReplacement.free.Goals as goal
use Rattle.sml_objects.proofs.fates.SubstitutionReplacement.free.Goals.{in-Some, in-None}

pub returns-in_ok-clone-in-Some-types : goal.returns-in_ok-clone-in-Some-types
returns-in_ok-clone-in-Some-types c =
    let v = c.args.variable in
    let ks = c.args.self.now.places.now.keys in
    let ts = c.args.self.now.types.now in
    let p : c.match-get_index_of.place ≡ index_among v ks =
    elim c.match-get_index_of.branch [
      | in-Some w ↦ w.place-is ∙ place-found v ks w.in-Some.place w.in-Some.ensures.index
      | in-None w ↦ w.place-is ∙ w.len-place.ensures.len ∙ place-missing v ks w.in-None.ensures.index
    ] in
    let e = standing-at ks ts v c.match-get_index_of.place c.index-self-place.result p c.if-place-self.true c.index-self-place.is in
    sym (e ∙ (ap (λ x. type_or (O.free v) (seen_type x)) (c.index-self-place.is ∙ c.in-Some-types.is) ∙ sym (ap type_of c.in_ok-clone-in-Some-types.ensures.cases)))

pub returns-in-None-types : goal.returns-in-None-types
returns-in-None-types c =
    let v = c.args.variable in
    let ks = c.args.self.now.places.now.keys in
    let ts = c.args.self.now.types.now in
    let p : c.match-get_index_of.place ≡ index_among v ks =
    elim c.match-get_index_of.branch [
      | in-Some w ↦ w.place-is ∙ place-found v ks w.in-Some.place w.in-Some.ensures.index
      | in-None w ↦ w.place-is ∙ w.len-place.ensures.len ∙ place-missing v ks w.in-None.ensures.index
    ] in
    let e = standing-at ks ts v c.match-get_index_of.place c.index-self-place.result p c.if-place-self.true c.index-self-place.is in
    shared-type c.shared.result (Free v) _ (type_of-free v ∙ sym (e ∙ ap (λ x. type_or (O.free v) (seen_type x)) (c.index-self-place.is ∙ c.in-None-types.is))) c.shared.ensures

pub returns-else-place-self : goal.returns-else-place-self
returns-else-place-self c =
    let v = c.args.variable in
    let ks = c.args.self.now.places.now.keys in
    let ts = c.args.self.now.types.now in
    let p : c.match-get_index_of.place ≡ index_among v ks =
    elim c.match-get_index_of.branch [
      | in-Some w ↦ w.place-is ∙ place-found v ks w.in-Some.place w.in-Some.ensures.index
      | in-None w ↦ w.place-is ∙ w.len-place.ensures.len ∙ place-missing v ks w.in-None.ensures.index
    ] in
    shared-type c.shared-else-place-self.result (Free v) _ (type_of-free v ∙ sym (standing-past ks ts v c.match-get_index_of.place p c.if-place-self.false)) c.shared-else-place-self.ensures
