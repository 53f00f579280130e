use Rattle.std.proofs.Common.{◌≡◌, ◌+◌, ◌<◌, ◌∷◌, ℕ, List, [], map, drop, length, get_or, ap, sym, ◌∙◌, subst, arith}
use Rattle.std.proofs.lemmas.List.{drop_more, length-map, length-append}
use Rattle.std.proofs.Math.ListN.{drop_of_length-le}
use Rattle.sml_tree.specs.Views.{spec_of}
use Rattle.sml_tree.specs.declared.bare.Spec.{Spec}
use Rattle.sml_objects.specs.Objects.{empty_env, extend, extend_env, names_basis, names_sig, names_env, names_map, names_structures}
use Rattle.sml_objects.specs.Initial.{naming}
use Rattle.sml_objects.specs.Views.{env_of, maker_of, name_of}
use Rattle.sml_objects.specs.declared.objects.Sig as P
use Rattle.sml_rules.specs.Every.{Every}
use Rattle.sml_rules.specs.Rules.{item_of, both}
use Rattle.sml_rules.specs.Answers.{accepted, refused}
use Rattle.sml_rules.specs.Readings.{read_specs}
use Rattle.sml_piece.specs.declared.signatures.Specified as PS
use Rattle.sml_piece.specs.Elaborated.{Shows, Tells, IsBelow, no_local, no_signature, signature_of, specified_of, names_in, summed, read_new}
use Rattle.sml_piece.proofs.Contexts.{shows_outer, shows_component}
use Rattle.sml_piece.proofs.Specifying.{tells_nothing, tells_more, read_of_new, specs_on, specs_fault, basis_below, sum_below, all_below_more}
use Rattle.sml_piece.proofs.Answering.{then_any, gives, refusal, refuses, refused_on}
use Rattle.sml_piece.proofs.signatures.signature.Goals as goal

pub loop-spec-init : goal.loop-spec-init
unfolding names_sig names_env names_map names_structures
loop-spec-init c = λ B same below.
    let outer = env_of c.args.basis.now.env in
    let unit = maker_of c.args.basis.now.unit in
    let count = length c.args.basis.now.names.items in
    let none : c.new.result.items ≡ [] = c.new.ensures.items in
    let empty : env_of c.new-2.result ≡ empty_env = c.new-2.ensures in
    let sig : signature_of record { names = c.new.result; body = c.new-2.result } ≡ no_signature =
    ap (λ ns. record { names = map name_of ns; body = env_of c.new-2.result }) none ∙ ap (λ E. record { names = []; body = E }) empty in
    let rest = map spec_of c.args.specs.now in (
      B,
      [],
      subst (λ E. Shows no_local outer E B.body) (sym empty) (subst (Shows no_local outer empty_env) (sym same) (shows_outer outer)),
      all_below_more unit count (length c.new.result.items) (names_basis B) below,
      subst (λ S. Every (IsBelow unit (count + length c.new.result.items)) (names_sig S)) (sym sig) tt,
      subst (Tells []) (sym empty) tells_nothing,
      λ o h. subst (λ T. summed T (read_specs naming unit B [] rest) o) sig h,
    )

-- the specifications from one on: that one, and those after it
rest_at : (xs : List Spec) (i : ℕ) (x : Spec) → i < length xs → x ≡ get_or xs i x → map spec_of (drop i xs) ≡ spec_of x ∷ map spec_of (drop (i + 1) xs)
rest_at xs i x h e = ap (map spec_of) (drop_more xs i x h ∙ ap (λ y. y ∷ drop (i + 1) xs) (sym e))

pub returns-in-Err-clause-answer : goal.returns-in-Err-clause-answer
returns-in-Err-clause-answer c = λ B same below.
    let xs = c.args.specs.now in
    let i = c.loop-spec.spec-index in
    let unit = maker_of c.args.basis.now.unit in
    let v = c.loop-spec.invariant B same below in
    let T = signature_of c.loop-spec.sig in
    let q = spec_of c.spec-item.result in
    refuses signature_of c.in-Err.fault _ (refused_on c.in-Err.fault (read_new unit v.0 v.1 q) _
    (λ f h. v.6 (refused f) (subst (λ qs. summed T (read_specs naming unit v.0 v.1 qs) (refused f)) (sym (rest_at xs i c.spec-item.result c.loop-spec-test.true c.spec-item.is)) (specs_fault unit v.0 v.1 q (map spec_of (drop (i + 1) xs)) T f h)))
    (refusal specified_of c.in-Err.fault _ (c.in-Err.ensures.answer v.0 v.1 v.2 v.3 v.5)))

-- the number of names grows by those specified
count_more : (old new : P.Sig) (s : PS.Specified) → signature_of new ≡ both (signature_of old) (specified_of s)
    → length new.names.items ≡ length old.names.items + length (names_in s.name)
count_more old new s e =
    sym (length-map new.names.items name_of) ∙ ap (λ S. length S.names) e ∙ length-append (map name_of old.names.items) (names_in s.name)
    ∙ ap (λ k. k + length (names_in s.name)) (length-map old.names.items name_of)

pub loop-spec-preserved : goal.loop-spec-preserved
unfolding extend
loop-spec-preserved c = λ B same below.
    let xs = c.args.specs.now in
    let i = c.loop-spec.spec-index in
    let unit = maker_of c.args.basis.now.unit in
    let outer = env_of c.args.basis.now.env in
    let count = length c.args.basis.now.names.items in
    let v = c.loop-spec.invariant B same below in
    let C = v.0 in
    let old = c.loop-spec.sig in
    let new = c.add.new.sig in
    let s = c.in-Ok.specified in
    let S = specified_of s in
    let q = spec_of c.spec-item.result in
    let sum : signature_of new ≡ both (signature_of old) S = c.in-Ok-add.ensures in
    let h = c.in-Ok.ensures.answer C v.1 v.2 v.3 v.5 in
    let k = length old.names.items in
    let j = length (names_in s.name) in
    let more : (count + k) + j ≡ count + length new.names.items = let e : length new.names.items ≡ k + j = count_more old new s sum in omega (arith, e) in
    let own = subst (λ n. Every (IsBelow unit n) (names_sig S)) more (c.in-Ok.ensures.names C v.2 v.3) in
    let body : env_of new.body ≡ extend_env (env_of old.body) S.body = ap (λ S. S.body) sum in (
      extend C S,
      item_of q ∷ v.1,
      subst (λ E. Shows no_local outer E (extend_env C.body S.body)) (sym body) (shows_component outer (env_of old.body) C.body s.component v.2),
      basis_below unit (count + length new.names.items) C S (subst (λ n. Every (IsBelow unit n) (names_basis C)) more (all_below_more unit (count + k) j (names_basis C) v.3)) own,
      subst (λ T. Every (IsBelow unit (count + length new.names.items)) (names_sig T)) (sym sum)
          (sum_below unit (count + length new.names.items) (signature_of old) S (subst (λ n. Every (IsBelow unit n) (names_sig (signature_of old))) more (all_below_more unit (count + k) j (names_sig (signature_of old)) v.4)) own),
      subst (Tells (item_of q ∷ v.1)) (sym body) (tells_more unit C q S v.1 (env_of old.body) (read_of_new unit C v.1 q S h).0 v.5),
      λ o g. v.6 o (subst (λ qs. summed (signature_of old) (read_specs naming unit C v.1 qs) o) (sym (rest_at xs i c.spec-item.result c.loop-spec-test.true c.spec-item.is))
          (specs_on unit C v.1 q (map spec_of (drop (i + 1) xs)) (signature_of old) (signature_of new) S o h sum g)),
    )

pub returns-clause-answer : goal.returns-clause-answer
unfolding read_specs
returns-clause-answer c = λ B same below.
    let xs = c.args.specs.now in
    let unit = maker_of c.args.basis.now.unit in
    let v = c.loop-spec.invariant B same below in
    let T = signature_of c.loop-spec.sig in
    let all : drop c.loop-spec.spec-index xs ≡ [] = drop_of_length-le xs (omega arith) in
    v.6 (accepted T) (subst (λ qs. summed T (read_specs naming unit v.0 v.1 (map spec_of qs)) (accepted T)) (sym all) (then_any _ _ [] (accepted T) (gives []) (gives T)))
