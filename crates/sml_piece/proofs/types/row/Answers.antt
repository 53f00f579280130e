use Rattle.std.proofs.Common.{◌≡◌, ℕ, suc, List, [], ◌∷◌, length, decimal, refl, ap, sym, ◌∙◌}
use Rattle.std.proofs.lemmas.List.{length-map}
use Rattle.sml_objects.specs.Initial.{Name}
use Rattle.sml_objects.specs.Labels.{numbers}
use Rattle.sml_objects.specs.Objects as O
use Rattle.sml_objects.specs.Objects.{types_of}
use Rattle.sml_objects.specs.Views.{type_of, label_list}
use Rattle.sml_objects.proofs.TypeViews.{parts_of, type_of-row}
use Rattle.sml_piece.proofs.Answering.{made_same}
use Rattle.sml_piece.proofs.types.row.Goals as goal

-- the labels of a tuple are those from 1 to the number of its parts
counted : (k : ℕ) (ts : List (O.MlType Name)) → O.labels_of k (types_of ts) ≡ numbers k (length ts)
counted k [] = refl
counted k (t ∷ ts) = ap (λ ls. decimal k ∷ ls) (counted (suc k) ts)

pub returns-in-Ok : goal.returns-in-Ok
returns-in-Ok c =
    let parts = parts_of c.args.parts.items in
    let e : label_list c.in-Ok.labels.value ≡ O.labels_of 1 (types_of parts) =
    c.in-Ok.ensures ∙ (ap (numbers 1) (c.len.ensures ∙ c.args.parts.ok.0 ∙ sym (length-map c.args.parts.items (λ t. type_of t.value))) ∙ sym (counted 1 parts)) in
    made_same _ _ _ c.boxed.result (type_of-row c.in-Ok.labels c.args.parts ∙ ap (λ ls. O.app (O.row ls) (types_of parts)) e) c.boxed.ensures
