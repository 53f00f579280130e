use Rattle.std.proofs.Common.{◌≡◌, false, true, refl, nat_eq, ap, sym, subst, ◌∙◌, IfOk, Global, ℕ, Bool, List, [], ◌<◌, ◌≤◌, ◌+◌, get_or, arith, take, length, ◌∷◌, ◌++◌, rules}
use Rattle.std.proofs.lemmas.Bool.{true≢false}
use Rattle.sml_objects.specs.Initial.{Name}
use Rattle.std.proofs.lemmas.List.{length-map, map_more, take-map, take_all}
use Rattle.std.specs.declared.rc.Rc.{Rc}
use Rattle.sml_objects.specs.Objects as O
use Rattle.sml_objects.specs.declared.objects.MlType.{MlType}
use Rattle.sml_objects.specs.Objects.{types_of}
use Rattle.sml_objects.specs.Views.{type_of, name_of, label_list}
use Rattle.sml_objects.specs.Types.{replace_type}
use Rattle.sml_objects.proofs.TypeViews.{parts_of, type_of-bound, type_of-free, type_of-row, type_of-arrow, type_of-name}
use Rattle.sml_objects.proofs.NameTests.{eq, eq-same, same-eq}
use Rattle.sml_objects.proofs.SameTypes.{kind, only-free, only-arrow, only-row, only-name}
use Rattle.sml_piece.specs.CodeMatched.{Found, Fits, FitAll, found_in}
use Rattle.sml_piece.proofs.Fitting.{fits_free, other_name, other_labels, other_from, kind-free, kind-row, kind-arrow, kind-name, fit_none, fit_more, fit_part, fit_length, on_result, row_result, name_result, arrow_result}
use Rattle.sml_piece.proofs.instances.+fitting.Goals as goal

pub fits-returns-in_default : goal.fits-returns-in_default
fits-returns-in_default t c = λ args a e.
    only-free c.deref.result.now (ap (λ u. kind (type_of u)) c.deref.ensures ∙ ap kind e ∙ ap (λ u. kind (replace_type args O.free u)) (ap type_of c.in_default.is-0 ∙ type_of-free c.in_default.field-0-0) ∙ kind-free args _) c.in_default.not-Free-1

pub fits-returns-in_default-2 : goal.fits-returns-in_default-2
fits-returns-in_default-2 t c = λ args a e.
    only-row c.deref.result.now (ap (λ u. kind (type_of u)) c.deref.ensures ∙ ap kind e ∙ ap (λ u. kind (replace_type args O.free u)) (ap type_of c.in_default.is-0 ∙ type_of-row c.in_default.field-0-0 c.in_default.field-1-0) ∙ kind-row args _ _) c.in_default.not-Row-1

pub fits-returns-in_default-3 : goal.fits-returns-in_default-3
fits-returns-in_default-3 t c = λ args a e.
    only-arrow c.deref.result.now (ap (λ u. kind (type_of u)) c.deref.ensures ∙ ap kind e ∙ ap (λ u. kind (replace_type args O.free u)) (ap type_of c.in_default.is-0 ∙ type_of-arrow c.in_default.field-0-0 c.in_default.field-1-0) ∙ kind-arrow args _ _) c.in_default.not-Arrow-1

pub fits-returns-in_default-4 : goal.fits-returns-in_default-4
fits-returns-in_default-4 t c = λ args a e.
    only-name c.deref.result.now (ap (λ u. kind (type_of u)) c.deref.ensures ∙ ap kind e ∙ ap (λ u. kind (replace_type args O.free u)) (ap type_of c.in_default.is-0 ∙ type_of-name c.in_default.field-0-0 c.in_default.field-1-0) ∙ kind-name args _ _) c.in_default.not-Name-1

pub fits-returns-in-Bound-default : goal.fits-returns-in-Bound-default
fits-returns-in-Bound-default t c =
    on_result _ _ _ _ _ _ c.fits_variable.result (ap type_of c.in-Bound-default.is-0 ∙ type_of-bound c.in-Bound-default.variable) refl c.fits_variable.ensures

pub fits-returns-in-Free-Free : goal.fits-returns-in-Free-Free
fits-returns-in-Free-Free t c =
    let v = c.in-Free-Free.v in
    let w = c.in-Free-Free.w in
    let found = found_in c.args.found.now.entries in
    subst (λ b. Fits found found b (type_of c.args.ty.now.value) (nat_eq v w)) (sym (ap type_of c.in-Free-Free.is-0 ∙ type_of-free v))
    (subst (λ u. Fits found found (O.free v) u (nat_eq v w)) (sym (ap type_of (sym c.deref.ensures ∙ c.in-Free-Free.is-1) ∙ type_of-free w)) (fits_free found v w))

pub fits-returns-then-are_same : goal.fits-returns-then-are_same
fits-returns-then-are_same t c =
    on_result _ _ _ _ _ _ c.all_fit.result (ap type_of c.in-Row-Row.is-0 ∙ type_of-row c.in-Row-Row.labels c.in-Row-Row.bodies) (ap type_of (sym c.deref.ensures ∙ c.in-Row-Row.is-1) ∙ type_of-row c.in-Row-Row.other_labels c.in-Row-Row.types)
    (row_result _ _ _ _ _ _ _ _ c.all_fit.result (ap label_list (sym c.deref-in-Row-Row.ensures) ∙ (c.are_same.ensures.yes c.if-are_same.true ∙ ap label_list c.deref-in-Row-Row-2.ensures)) (ap (λ l. types_of (parts_of l)) c.deref-then-are_same.ensures.value) (ap (λ l. types_of (parts_of l)) c.deref-then-are_same-2.ensures.value) c.all_fit.ensures)

pub fits-returns-then-eq : goal.fits-returns-then-eq
fits-returns-then-eq t c =
    let m = c.in-Name-Name.name in
    let n = c.in-Name-Name.other in
    on_result _ _ _ _ _ _ c.all_fit-then-eq.result (ap type_of c.in-Name-Name.is-0 ∙ type_of-name m c.in-Name-Name.bodies) (ap type_of (sym c.deref.ensures ∙ c.in-Name-Name.is-1) ∙ type_of-name n c.in-Name-Name.types)
    (name_result _ _ (name_of m) (name_of n) _ _ _ _ c.all_fit-then-eq.result (eq-same m n (search rules)) (ap (λ l. types_of (parts_of l)) c.deref-then-eq.ensures.value) (ap (λ l. types_of (parts_of l)) c.deref-then-eq-2.ensures.value) c.all_fit-then-eq.ensures)

abbrev see : Rc MlType Global → O.MlType Name
see t = type_of t.value

-- a phrase that doesn't become the type, seen otherwise
seen : (old new : Found) (b d t u : O.MlType Name) → b ≡ d → t ≡ u → Fits old new d u false → Fits old new b t false
seen old new b d t u h k f = subst (λ b. Fits old new b t false) (sym h) (subst (λ t. Fits old new d t false) (sym k) f)

pub fits-returns-else-eq : goal.fits-returns-else-eq
fits-returns-else-eq t c =
    let m = c.in-Name-Name.name in
    let n = c.in-Name-Name.other in
    let found = found_in c.args.found.now.entries in
    seen found found _ _ _ _ (ap type_of c.in-Name-Name.is-0 ∙ type_of-name m c.in-Name-Name.bodies) (ap type_of (sym c.deref.ensures ∙ c.in-Name-Name.is-1) ∙ type_of-name n c.in-Name-Name.types)
    (other_name found found (name_of m) (name_of n) _ _ (λ e. let differ : eq m n ≡ false = search rules in true≢false (sym (same-eq m n e) ∙ differ)))

pub fits-returns-else-are_same : goal.fits-returns-else-are_same
fits-returns-else-are_same t c =
    let ls = c.in-Row-Row.labels in
    let ms = c.in-Row-Row.other_labels in
    let found = found_in c.args.found.now.entries in
    seen found found _ _ _ _ (ap type_of c.in-Row-Row.is-0 ∙ type_of-row ls c.in-Row-Row.bodies) (ap type_of (sym c.deref.ensures ∙ c.in-Row-Row.is-1) ∙ type_of-row ms c.in-Row-Row.types)
    (other_labels found found (label_list ls.value) (label_list ms.value) _ _
    (λ e. c.are_same.ensures.no c.if-are_same.false (ap label_list c.deref-in-Row-Row.ensures ∙ (e ∙ ap label_list (sym c.deref-in-Row-Row-2.ensures)))))

pub fits-returns-then-branch : goal.fits-returns-then-branch
fits-returns-then-branch t c =
    let from = c.in-Arrow-Arrow.from in
    let to = c.in-Arrow-Arrow.to in
    let u = c.in-Arrow-Arrow.from_type in
    let w = c.in-Arrow-Arrow.to_type in
    let old = found_in c.args.found.now.entries in
    let mid = found_in c.fits.new.found.entries in
    on_result _ _ _ _ _ _ c.fits-then-branch.result (ap type_of c.in-Arrow-Arrow.is-0 ∙ type_of-arrow from to) (ap type_of (sym c.deref.ensures ∙ c.in-Arrow-Arrow.is-1) ∙ type_of-arrow u w)
    (arrow_result old mid _ (type_of from.value) (type_of to.value) (type_of u.value) (type_of w.value) c.fits-then-branch.result
    (subst (λ b. Fits old mid (type_of from.value) (type_of u.value) b) c.if-branch.true (subst (λ x. Fits old mid (type_of x) (type_of u.value) c.in_ok-fits-in-Arrow-Arrow.field-0) c.deref-in-Arrow-Arrow.ensures c.in_ok-fits-in-Arrow-Arrow.ensures))
    (subst (λ x. IfOk c.fits-then-branch.result (Fits mid (found_in c.fits-then-branch.new.found.entries) (type_of x) (type_of w.value))) c.deref-then-branch.ensures c.fits-then-branch.ensures))

pub fits-returns-else-branch : goal.fits-returns-else-branch
fits-returns-else-branch t c =
    let from = c.in-Arrow-Arrow.from in
    let to = c.in-Arrow-Arrow.to in
    let u = c.in-Arrow-Arrow.from_type in
    let w = c.in-Arrow-Arrow.to_type in
    let old = found_in c.args.found.now.entries in
    let mid = found_in c.fits.new.found.entries in
    seen old mid _ _ _ _ (ap type_of c.in-Arrow-Arrow.is-0 ∙ type_of-arrow from to) (ap type_of (sym c.deref.ensures ∙ c.in-Arrow-Arrow.is-1) ∙ type_of-arrow u w)
    (other_from old mid mid (type_of from.value) (type_of to.value) (type_of u.value) (type_of w.value)
    (subst (λ b. Fits old mid (type_of from.value) (type_of u.value) b) c.if-branch.false (subst (λ x. Fits old mid (type_of x) (type_of u.value) c.in_ok-fits-in-Arrow-Arrow.field-0) c.deref-in-Arrow-Arrow.ensures c.in_ok-fits-in-Arrow-Arrow.ensures)))

pub all_fit-returns-then-bodies-types : goal.all_fit-returns-then-bodies-types
all_fit-returns-then-bodies-types t c =
    let found = found_in c.args.found.now.entries in
    fit_length found found (parts_of c.args.bodies.now) (parts_of c.args.types.now)
    (λ e. let e' = sym (length-map c.args.bodies.now see) ∙ e ∙ length-map c.args.types.now see in search rules)

pub all_fit-loop-index-init : goal.all_fit-loop-index-init
all_fit-loop-index-init t c = fit_none (found_in c.args.found.now.entries)

-- the parts up to one more
parts_more : (xs : List (Rc MlType Global)) (i : ℕ) (x : Rc MlType Global) → i < length xs → x ≡ get_or xs i x → parts_of (take (i + 1) xs) ≡ parts_of (take i xs) ++ see x ∷ []
parts_more xs i x h e = map_more see xs i x h ∙ ap (λ y. parts_of (take i xs) ++ see y ∷ []) (sym e)

-- and what fits them
one_more : (old mid new : Found) (bs ts : List (Rc MlType Global)) (i : ℕ) (b t : Rc MlType Global) (ty : MlType) (r : Bool)
    → i < length bs → i < length ts → b ≡ get_or bs i b → t ≡ get_or ts i t → ty ≡ b.value
    → FitAll old mid (types_of (parts_of (take i bs))) (types_of (parts_of (take i ts))) true → Fits mid new (type_of ty) (see t) r
    → FitAll old new (types_of (parts_of (take (i + 1) bs))) (types_of (parts_of (take (i + 1) ts))) r
one_more old mid new bs ts i b t ty r h k e d same f g =
    subst (λ us. FitAll old new (types_of (parts_of (take (i + 1) bs))) (types_of us) r) (sym (parts_more ts i t k d))
    (subst (λ us. FitAll old new (types_of us) (types_of (parts_of (take i ts) ++ see t ∷ [])) r) (sym (parts_more bs i b h e))
    (fit_more old mid new (parts_of (take i bs)) (parts_of (take i ts)) (see b) (see t) r f (subst (λ u. Fits mid new (type_of u) (see t) r) same g)))

pub all_fit-returns-then-not-branch : goal.all_fit-returns-then-not-branch
all_fit-returns-then-not-branch t c =
    let bs = c.args.bodies.now in
    let ts = c.args.types.now in
    let i = c.loop-index.index in
    let old = found_in c.args.found.now.entries in
    let mid = found_in c.loop-index.found.entries in
    let new = found_in c.fits.new.found.entries in
    fit_part old new new (i + 1) (parts_of bs) (parts_of ts)
    (subst (λ us. FitAll old new (types_of (take (i + 1) (parts_of bs))) (types_of us) false) (sym (take-map see (i + 1) ts))
    (subst (λ us. FitAll old new (types_of us) (types_of (parts_of (take (i + 1) ts))) false) (sym (take-map see (i + 1) bs))
    (one_more old mid new bs ts i c.index-bodies-index.result c.index-types-index.result c.deref.result.now false c.loop-index-test.true (search rules) c.index-bodies-index.is c.index-types-index.is c.deref.ensures
    c.loop-index.invariant (subst (Fits mid new (type_of c.deref.result.now) (see c.index-types-index.result)) c.if-not-branch.true c.in_ok-fits.ensures))))

pub all_fit-loop-index-preserved : goal.all_fit-loop-index-preserved
all_fit-loop-index-preserved t c =
    let bs = c.args.bodies.now in
    let ts = c.args.types.now in
    let i = c.loop-index.index in
    let old = found_in c.args.found.now.entries in
    let mid = found_in c.loop-index.found.entries in
    let new = found_in c.fits.new.found.entries in
    one_more old mid new bs ts i c.index-bodies-index.result c.index-types-index.result c.deref.result.now true c.loop-index-test.true (search rules) c.index-bodies-index.is c.index-types-index.is c.deref.ensures
    c.loop-index.invariant (subst (Fits mid new (type_of c.deref.result.now) (see c.index-types-index.result)) c.if-not-branch.false c.in_ok-fits.ensures)

pub all_fit-returns : goal.all_fit-returns
all_fit-returns t c =
    let bs = c.args.bodies.now in
    let ts = c.args.types.now in
    let i = c.loop-index.index in
    let old = found_in c.args.found.now.entries in
    let new = found_in c.loop-index.found.entries in
    let many : length bs ≤ i = c.loop-index-test.false in
    let same : length bs ≡ length ts = search rules in
    subst (λ us. FitAll old new (types_of (parts_of bs)) (types_of (parts_of us)) true) (take_all i ts (omega (arith, many, same)))
    (subst (λ us. FitAll old new (types_of (parts_of us)) (types_of (parts_of (take i ts))) true) (take_all i bs many) c.loop-index.invariant)
