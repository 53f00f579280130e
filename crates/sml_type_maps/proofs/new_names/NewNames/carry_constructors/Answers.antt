use Rattle.std.proofs.Common.{◌≡◌, ℕ, true, false, List, [], ◌∷◌, length, refl, Vec, Global, Some, OnOk, ap, sym, subst, ◌∙◌, map, rules}
use Rattle.std.proofs.lemmas.Map.Iter.{iter_end}
use Rattle.std.specs.Map.Iter.{deref_pair}
use Rattle.std.specs.declared.rc.Rc.{Rc}
use Rattle.sml_tree.specs.Views.{ident_of}
use Rattle.sml_objects.specs.Initial.{Name}
use Rattle.sml_objects.specs.Views.{name_of, schemes_of}
use Rattle.sml_objects.specs.declared.objects.Scheme.{Scheme}
use Rattle.sml_core_rules.specs.Objects.{identifiers}
use Rattle.sml_type_maps.specs.NewNames.{carries, carries_too, idents_of, unless_none}
use Rattle.sml_type_maps.proofs.new_names.NewNames.carry_constructors.Goals as goal

some-idents : (es : List (Rc (Vec ℕ Global) Global × Rc Scheme Global)) → (length es ≡ 0 → ⊥) → unless_none (identifiers (schemes_of es)) ≡ Some (identifiers (schemes_of es))
some-idents [] h = absurd (h refl)
some-idents (e ∷ es) h = refl

pub returns-clause-carried : goal.returns-clause-carried
returns-clause-carried c =
    let es = c.args.constructors.now.entries in
    let whole : map deref_pair c.loop-identifier.yielded ≡ es = search (rules, iter_end) in
    let same : idents_of c.in_ok-identifiers.identifiers ≡ identifiers (schemes_of es) =
    ap (λ v. map ident_of v.items) c.in_ok-identifiers.ensures.ok ∙ c.loop-identifier.invariant ∙ ap (λ l. identifiers (schemes_of l)) whole in
    let some : Some (idents_of c.in_ok-identifiers.identifiers) ≡ unless_none (identifiers (schemes_of es)) = ap Some same ∙ sym (some-idents es (λ e. let t : c.is_empty.result ≡ true = c.is_empty.ensures.1 e in let f : c.is_empty.result ≡ false = c.if-is_empty.false in cc)) in
    subst (λ o. OnOk c.carry.result ((n : Name) → carries c.carry.new.self n ≡ carries_too c.args.self.now (name_of c.args.name) o n)) some c.carry.ensures.carried
