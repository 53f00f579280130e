use Rattle.std.proofs.Common.{◌≡◌, ◌+◌, List, ℕ, suc, ap, sym, ◌∙◌, ◌++◌, ◌∷◌, [], cond, codes, decimal, append_assoc, arith}
use Rattle.sml_objects.specs.Initial.{naming}
use Rattle.sml_objects.specs.Views.{name_of, initial_of, maker_of}
use Rattle.sml_objects.specs.declared.objects.TyName.{TyName}
use Rattle.sml_objects.specs.declared.objects.TyName.TheVariants.{Made}
use Rattle.sml_objects.specs.Canonical.{index_of}
use Rattle.sml_texts.specs.Text.{say, a_name, spell_new}
use Rattle.sml_texts.specs.Spelling.{lines_of, and_pieces}
use Rattle.sml_texts.proofs.Spelling.{initial_name, made_name, next_names, index_is, on_ok_then}
use Rattle.sml_texts.proofs.texts.Lines.push_name.Goals as goal

pub returns-in-Initial : goal.returns-in-Initial
returns-in-Initial c =
    let t = lines_of c.args.self.now in
    on_ok_then c.push.result _ _
    (λ h. h ∙ ap (λ b. and_pieces t (say b)) c.initial_text.ensures ∙ initial_name t (initial_of c.in-Initial.initial) ∙ ap (λ n. and_pieces t (a_name (name_of n) ∷ [])) (sym c.in-Initial.is))
    c.push.ensures

pub returns-in_ok-extend_from_slice-in-Made : goal.returns-in_ok-extend_from_slice-in-Made
unfolding spell_new naming
returns-in_ok-extend_from_slice-in-Made c =
    let m = c.in-Made.made in
    let n : TyName = Made m in
    let t = lines_of c.args.self.now in
    let old : List ℕ = c.args.self.now.text.items in
    let k = index_of naming (name_of n) t.1 in
    let mark : List ℕ = cond m.equality (codes "?=") (codes "?") in
    let place : c.in_ok-place-in-Made.place + 1 ≡ suc k =
    (let e = c.in_ok-place-in-Made.ensures.index ∙ sym (index_is n c.args.self.now.names.keys) in omega (arith, e)) in
    let names = next_names n c.args.self.now.names.keys c.insert_full.new.self.keys c.in_ok-place-in-Made.ensures.keys in
    on_ok_then c.push_number.result _ _
    (λ h. let text : c.push_number.new.text.items ≡ old ++ (mark ++ decimal (suc k)) =
    h ∙ ap (λ u. u ++ decimal (c.in_ok-place-in-Made.place + 1)) (c.in_ok-extend_from_slice-in-Made.ensures.items ∙ ap (λ u. old ++ u) c.mark.ensures)
    ∙ append_assoc old mark (decimal (c.in_ok-place-in-Made.place + 1)) ∙ ap (λ j. old ++ (mark ++ decimal j)) place in
    (λ i. (text i, names i)) ∙ made_name t (maker_of m.unit) m.number m.arity m.equality ∙ ap (λ n. and_pieces t (a_name (name_of n) ∷ [])) (sym c.in-Made.is))
    c.push_number.ensures
