use Rattle.std.proofs.Common.{◌≡◌, [], ◌∷◌, Some, None, ap, sym, ◌∙◌, map, rules}
use Rattle.std.proofs.lemmas.List.{map-append}
use Rattle.std.proofs.lemmas.Map.Iter.{iter_end}
use Rattle.std.specs.Map.Iter.{deref_pair}
use Rattle.std.specs.Option.{option_map}
use Rattle.sml_tree.specs.Views.{ident_of}
use Rattle.sml_objects.specs.Views.{entries_of, name_of, scheme_of, schemes_of}
use Rattle.sml_core_rules.specs.Functions.{name_of as named_by}
use Rattle.sml_core_rules.specs.Objects.{identifiers}
use Rattle.sml_bases.specs.Views.{ty_str_of}
use Rattle.sml_type_maps.specs.NewNames.{carries, is_new, unless_none}
use Rattle.sml_types.specs.Carried.{carries_all, carries_one}
use Rattle.sml_types.proofs.Carrying.{carries-push, new-same, one-carried}
use Rattle.sml_types.proofs.datatypes.carry_all.Goals as goal

pub loop-ty-preserved-in-Continue-1 : goal.loop-ty-preserved-in-Continue-1
loop-ty-preserved-in-Continue-1 c =
    let s = c.loop-ty.new in
    let r = c.args.new.now in
    let has = c.loop-ty.invariant in
    let ys = c.loop-ty.yielded in
    let k = c.in-Some.field-0-0 in
    let ty = c.in-Some.ty.now in
    let es = entries_of ty_str_of (map deref_pair ys) in
    let named : named_by (scheme_of ty.function.value) ≡ Some (name_of c.in-Some-name_of.name) =
    sym (sym (ap (option_map name_of) c.in-Some-name_of.is) ∙ c.name_of.ensures ∙ ap (λ f. named_by (scheme_of f)) c.deref.ensures) in (
      tt,
      tt,
      c.in_ok-carry_constructors.ensures.basis ∙ has.2,
      c.in_ok-carry_constructors.ensures.unit ∙ has.3,
      c.in_ok-carry_constructors.ensures.next ∙ has.4,
      λ n.
          c.in_ok-carry_constructors.ensures.carried n
          ∙ one-carried s r (name_of c.in-Some-name_of.name) (unless_none (identifiers (schemes_of c.deref-in-Some-name_of.result.now.entries))) (carries_all (is_new r) es (carries r)) n
          (new-same s r has.3 has.2 n) (has.5 n)
          ∙ (λ i. carries_one (is_new r) (sym named i) (unless_none (identifiers (schemes_of (c.deref-in-Some-name_of.ensures i).entries))) (carries_all (is_new r) es (carries r)) n)
          ∙ sym (carries-push (is_new r) es (ident_of k.now, ty_str_of ty) (carries r) n)
          ∙ sym (ap (λ l. carries_all (is_new r) l (carries r) n)
          (ap (entries_of ty_str_of) (map-append deref_pair ys ((k, c.in-Some.ty) ∷ [])) ∙ map-append (λ e. (ident_of e.0, ty_str_of e.1)) (map deref_pair ys) (deref_pair (k, c.in-Some.ty) ∷ []))),
    )

pub loop-ty-preserved : goal.loop-ty-preserved
loop-ty-preserved c =
    let r = c.args.new.now in
    let has = c.loop-ty.invariant in
    let ys = c.loop-ty.yielded in
    let k = c.in-Some.field-0-0 in
    let ty = c.in-Some.ty.now in
    let es = entries_of ty_str_of (map deref_pair ys) in
    let named : named_by (scheme_of ty.function.value) ≡ None =
    sym (sym (ap (option_map name_of) c.in_default.is) ∙ c.name_of.ensures ∙ ap (λ f. named_by (scheme_of f)) c.deref.ensures) in (
      tt,
      tt,
      has.2,
      has.3,
      has.4,
      λ n.
          has.5 n
          ∙ (λ i. carries_one (is_new r) (sym named i) (unless_none (identifiers (schemes_of ty.constructors.value.entries))) (carries_all (is_new r) es (carries r)) n)
          ∙ sym (carries-push (is_new r) es (ident_of k.now, ty_str_of ty) (carries r) n)
          ∙ sym (ap (λ l. carries_all (is_new r) l (carries r) n)
          (ap (entries_of ty_str_of) (map-append deref_pair ys ((k, c.in-Some.ty) ∷ [])) ∙ map-append (λ e. (ident_of e.0, ty_str_of e.1)) (map deref_pair ys) (deref_pair (k, c.in-Some.ty) ∷ []))),
    )

pub returns-clause-carries : goal.returns-clause-carries
returns-clause-carries c = λ n.
    let whole : map deref_pair c.loop-ty.yielded ≡ c.args.types.now.entries = search (rules, iter_end) in
    c.loop-ty.invariant.5 n ∙ ap (λ l. carries_all (is_new c.args.new.now) (entries_of ty_str_of l) (carries c.args.new.now) n) whole
