-- When a body becomes a type, phrase by phrase.
use Rattle.std.proofs.Common.{◌≡◌, ℕ, Bool, true, false, Result, Ok, Err, IfOk, Option, Some, None, List, [], ◌∷◌, ◌++◌, map, length, take, nat_eq, cond, refl, ap, sym, subst, ◌∙◌, Global}
use Rattle.std.proofs.lemmas.Bool.{eqb-true, eqb-false, eq-eqb}
use Rattle.std.proofs.lemmas.List.{map-append, take-map, length-map}
use Rattle.std.proofs.lemmas.Option.{none-some}
use Rattle.std.specs.Map.{lookup}
use Rattle.std.specs.Option.{option_map}
use Rattle.std.specs.declared.rc.Rc.{Rc}
use Rattle.sml_tree.specs.Trees.{Id}
use Rattle.sml_objects.specs.Objects as O
use Rattle.sml_objects.specs.declared.objects.MlType.{MlType}
use Rattle.sml_objects.specs.Initial.{Name}
use Rattle.sml_objects.specs.Types.{replace_type, replace_types}
use Rattle.sml_objects.specs.Objects.{types_of}
use Rattle.sml_objects.specs.Views.{type_of}
use Rattle.sml_objects.proofs.SameTypes.{kind}
use Rattle.sml_rules.specs.Rules.{IsOpen, AreOpen, IsInstance}
use Rattle.sml_piece.specs.CodeMatched.{Found, Agrees, AreOpenIn, Fits, FitAll, Decides, found_in}

abbrev Args : Type 0
Args = ℕ → O.MlType Name

abbrev parts : O.MlType Name → O.MlTypes Name
parts (O.bound k) = O.no_type
parts (O.free v) = O.no_type
parts (O.app h ts) = ts

abbrev variable : O.MlType Name → ℕ
variable (O.bound k) = 0
variable (O.free v) = v
variable (O.app h ts) = 0

pub fits_free : (found : Found) (v w : ℕ) → Fits found found (O.free v) (O.free w) (nat_eq v w)
unfolding replace_type
fits_free found v w = go (nat_eq v w) refl
  where
    go : (b : Bool) → nat_eq v w ≡ b → Fits found found (O.free v) (O.free w) b
    go true h = (λ args. (λ a. (a, ap O.free (sym (eqb-true v w h))), λ p. p.0), λ o p. o)
    go false h = λ args a e. eqb-false v w h (sym (ap variable e))

-- what a replaced type is, where it isn't a variable
pub kind-row : (args : Args) (ls : List (List ℕ)) (bs : O.MlTypes Name) → kind (replace_type args O.free (O.app (O.row ls) bs)) ≡ 3
unfolding replace_type
kind-row args ls bs = refl

pub kind-free : (args : Args) (v : ℕ) → kind (replace_type args O.free (O.free v)) ≡ 1
unfolding replace_type
kind-free args v = refl

pub kind-arrow : (args : Args) (t u : O.MlType Name) → kind (replace_type args O.free (O.arrow_of t u)) ≡ 2
unfolding replace_type
kind-arrow args t u = refl

pub kind-name : (args : Args) (n : Name) (bs : O.MlTypes Name) → kind (replace_type args O.free (O.app (O.name n) bs)) ≡ 4
unfolding replace_type
kind-name args n bs = refl

-- the parts of a phrase with parts
app_true : (old new : Found) (h : O.Head Name) (bs ts : O.MlTypes Name) → FitAll old new bs ts true → Fits old new (O.app h bs) (O.app h ts) true
unfolding replace_type IsOpen
app_true old new h bs ts (f, o) = (
  λ args. (λ a. let p = (f args).0 a in (p.0, ap (O.app h) p.1), λ p. (f args).1 (p.0, ap parts p.1)),
  o,
)

app_false : (old new : Found) (h k : O.Head Name) (bs ts : O.MlTypes Name) → FitAll old new bs ts false → Fits old new (O.app h bs) (O.app k ts) false
unfolding replace_type
app_false old new h k bs ts f = λ args a e. f args a (ap parts e)

pub fits_name : (old new : Found) (m n : Name) (bs ts : O.MlTypes Name) (b : Bool) → m ≡ n → FitAll old new bs ts b
    → Fits old new (O.app (O.name m) bs) (O.app (O.name n) ts) b
fits_name old new m n bs ts true e f = subst (λ k. Fits old new (O.app (O.name m) bs) (O.app (O.name k) ts) true) e (app_true old new (O.name m) bs ts f)
fits_name old new m n bs ts false e f = app_false old new (O.name m) (O.name n) bs ts f

abbrev head_name : Name → O.MlType Name → Name
head_name n (O.app (O.name m) ts) = m
head_name n t = n

pub other_name : (old : Found) (new : Found) (m n : Name) (bs ts : O.MlTypes Name) → ¬ (m ≡ n) → Fits old new (O.app (O.name m) bs) (O.app (O.name n) ts) false
unfolding replace_type
other_name old new m n bs ts h = λ args a e. h (sym (ap (head_name m) e))

pub fits_row : (old new : Found) (ls ms : List Id) (bs ts : O.MlTypes Name) (b : Bool) → ls ≡ ms → FitAll old new bs ts b → Fits old new (O.app (O.row ls) bs) (O.app (O.row ms) ts) b
fits_row old new ls ms bs ts true e f = subst (λ ks. Fits old new (O.app (O.row ls) bs) (O.app (O.row ks) ts) true) e (app_true old new (O.row ls) bs ts f)
fits_row old new ls ms bs ts false e f = app_false old new (O.row ls) (O.row ms) bs ts f

abbrev head_labels : List Id → O.MlType Name → List Id
head_labels ls (O.app (O.row ms) ts) = ms
head_labels ls t = ls

pub other_labels : (old new : Found) (ls ms : List Id) (bs ts : O.MlTypes Name) → ¬ (ls ≡ ms) → Fits old new (O.app (O.row ls) bs) (O.app (O.row ms) ts) false
unfolding replace_type
other_labels old new ls ms bs ts h = λ args a e. h (sym (ap (head_labels ls) e))

first : O.MlTypes Name → O.MlType Name
first O.no_type = O.bound 0
first (O.and_type t ts) = t

rest : O.MlTypes Name → O.MlTypes Name
rest O.no_type = O.no_type
rest (O.and_type t ts) = ts

-- one part after another
pub fits_arrow : (old mid new : Found) (from to t u : O.MlType Name) (b : Bool) → Fits old mid from t true → Fits mid new to u b
    → Fits old new (O.arrow_of from to) (O.arrow_of t u) b
unfolding replace_type replace_types first rest IsOpen AreOpen
fits_arrow old mid new from to t u true (f, o) (g, p) = (
  λ args. (
    λ a. let q = (g args).0 a in let r = (f args).0 q.0 in (r.0, λ i. O.arrow_of (r.1 i) (q.1 i)),
    λ q. (g args).1 ((f args).1 (q.0, ap (λ t. first (parts t)) q.1), ap (λ t. first (rest (parts t))) q.1),
  ),
  λ h k. p (o h k.0) k.1.0,
)
fits_arrow old mid new from to t u false (f, o) g = λ args a e.
    g args ((f args).1 (a, ap (λ t. first (parts t)) e)) (ap (λ t. first (rest (parts t))) e)

pub other_from : (old mid new : Found) (from to t u : O.MlType Name) → Fits old mid from t false → Fits old new (O.arrow_of from to) (O.arrow_of t u) false
unfolding replace_type replace_types first
other_from old mid new from to t u f = λ args a e. f args a (ap (λ t. first (parts t)) e)

-- no part, and one part more
pub fit_none : (found : Found) → FitAll found found O.no_type O.no_type true
unfolding replace_types
fit_none found = (λ args. (λ a. (a, refl), λ p. p.0), λ o p. o)

listed : O.MlTypes Name → List (O.MlType Name)
listed O.no_type = []
listed (O.and_type t ts) = t ∷ listed ts

listed_types : (ts : List (O.MlType Name)) → listed (types_of ts) ≡ ts
unfolding listed
listed_types [] = refl
listed_types (t ∷ ts) = ap (λ us. t ∷ us) (listed_types ts)

abbrev replaced : Args → O.MlType Name → O.MlType Name
replaced args t = replace_type args O.free t

types_replaced : (args : Args) (bs : List (O.MlType Name)) → replace_types args O.free (types_of bs) ≡ types_of (map (replaced args) bs)
unfolding replace_types
types_replaced args [] = refl
types_replaced args (b ∷ bs) = ap (O.and_type (replaced args b)) (types_replaced args bs)

to_list : (args : Args) (bs ts : List (O.MlType Name)) → types_of ts ≡ replace_types args O.free (types_of bs) → ts ≡ map (replaced args) bs
to_list args bs ts e = sym (listed_types ts) ∙ ap listed (e ∙ types_replaced args bs) ∙ listed_types (map (replaced args) bs)

from_list : (args : Args) (bs ts : List (O.MlType Name)) → ts ≡ map (replaced args) bs → types_of ts ≡ replace_types args O.free (types_of bs)
from_list args bs ts e = ap types_of e ∙ sym (types_replaced args bs)

last : {X : Type 0} → X → List X → X
last d [] = d
last d (x ∷ xs) = last x xs

last_push : {X : Type 0} (d : X) (xs : List X) (x : X) → last d (xs ++ x ∷ []) ≡ x
unfolding last
last_push d [] x = refl
last_push d (y ∷ xs) x = last_push y xs x

before_last : {X : Type 0} → List X → List X
before_last [] = []
before_last (x ∷ []) = []
before_last (x ∷ y ∷ ys) = x ∷ before_last (y ∷ ys)

before_push : {X : Type 0} (xs : List X) (x : X) → before_last (xs ++ x ∷ []) ≡ xs
unfolding before_last
before_push [] x = refl
before_push (y ∷ []) x = refl
before_push (y ∷ z ∷ xs) x = ap (λ l. y ∷ l) (before_push (z ∷ xs) x)

open_push : (ts : List (O.MlType Name)) (t : O.MlType Name) → AreOpen (types_of (ts ++ t ∷ [])) → AreOpen (types_of ts) × IsOpen t
unfolding IsOpen AreOpen
open_push [] t o = (tt, o.0)
open_push (u ∷ ts) t o = let p = open_push ts t o.1 in ((o.0, p.0), p.1)

pub fit_more : (old mid new : Found) (bs ts : List (O.MlType Name)) (b t : O.MlType Name) (r : Bool) → FitAll old mid (types_of bs) (types_of ts) true → Fits mid new b t r
    → FitAll old new (types_of (bs ++ b ∷ [])) (types_of (ts ++ t ∷ [])) r
fit_more old mid new bs ts b t true (f, o) (g, p) = (
  λ args. (
    λ a. let q = (g args).0 a in let r = (f args).0 q.0 in
        (r.0, from_list args (bs ++ b ∷ []) (ts ++ t ∷ []) ((λ i. to_list args bs ts r.1 i ++ q.1 i ∷ []) ∙ sym (map-append (replaced args) bs (b ∷ [])))),
    λ q. let e = to_list args (bs ++ b ∷ []) (ts ++ t ∷ []) q.1 ∙ map-append (replaced args) bs (b ∷ []) in
        (g args).1 (
          (f args).1 (q.0, from_list args bs ts (sym (before_push ts t) ∙ ap before_last e ∙ before_push (map (replaced args) bs) (replaced args b))),
          sym (last_push t ts t) ∙ ap (last t) e ∙ last_push t (map (replaced args) bs) (replaced args b),
        ),
  ),
  λ h k. let q = open_push ts t k in p (o h q.0) q.1,
)
fit_more old mid new bs ts b t false (f, o) g = λ args a e.
    let e' = to_list args (bs ++ b ∷ []) (ts ++ t ∷ []) e ∙ map-append (replaced args) bs (b ∷ []) in
    g args ((f args).1 (a, from_list args bs ts (sym (before_push ts t) ∙ ap before_last e' ∙ before_push (map (replaced args) bs) (replaced args b))))
    (sym (last_push t ts t) ∙ ap (last t) e' ∙ last_push t (map (replaced args) bs) (replaced args b))

-- what a beginning of the parts doesn't do, they don't
pub fit_part : (old new new' : Found) (k : ℕ) (bs ts : List (O.MlType Name)) → FitAll old new (types_of (take k bs)) (types_of (take k ts)) false
    → FitAll old new' (types_of bs) (types_of ts) false
fit_part old new new' k bs ts f = λ args a e.
    f args a (from_list args (take k bs) (take k ts) (ap (take k) (to_list args bs ts e) ∙ take-map (replaced args) k bs))

pub fit_length : (old new : Found) (bs ts : List (O.MlType Name)) → ¬ (length bs ≡ length ts) → FitAll old new (types_of bs) (types_of ts) false
fit_length old new bs ts h = λ args a e. h (sym (length-map bs (replaced args)) ∙ ap length (sym (to_list args bs ts e)))

-- a variable that has been found, and one that has not
pub fits_found : (found : Found) (k : ℕ) (before t : O.MlType Name) (b : Bool) → found k ≡ Some before → (b ≡ true → before ≡ t) → (b ≡ false → ¬ (before ≡ t))
    → Fits found found (O.bound k) t b
unfolding replace_type
fits_found found k before t true h y n = (λ args. (λ a. (a, sym (a k before h ∙ y refl)), λ p. p.0), λ o p. o)
fits_found found k before t false h y n = λ args a e. n refl (sym (a k before h) ∙ sym e)

-- what stands for a variable, of which something may have been found
argument_found : Option (O.MlType Name) → O.MlType Name
argument_found None = O.free 0
argument_found (Some t) = t

same_some : (t u : O.MlType Name) → Some t ≡ Some u → t ≡ u
unfolding argument_found
same_some t u e = ap argument_found e

pub fits_new : (old new : Found) (k : ℕ) (t : O.MlType Name) → old k ≡ None → ((j : ℕ) → new j ≡ cond (nat_eq k j) (Some t) (old j))
    → Fits old new (O.bound k) t true
unfolding replace_type
fits_new old new k t none puts = (
  λ args. (
    λ a. (λ j u e. a j u (puts j ∙ kept j u e), sym (a k t (puts k ∙ ap (λ b. cond b (Some t) (old k)) (eq-eqb k k refl)))),
    λ p j u e. agrees args p j u (nat_eq k j) refl (sym (puts j) ∙ e),
  ),
  λ o p j u e. opened o p j u (nat_eq k j) refl (sym (puts j) ∙ e),
)
  where
    kept : (j : ℕ) (u : O.MlType Name) → old j ≡ Some u → cond (nat_eq k j) (Some t) (old j) ≡ Some u
    kept j u e = go (nat_eq k j) refl
      where
        go : (b : Bool) → nat_eq k j ≡ b → cond b (Some t) (old j) ≡ Some u
        go true h = absurd (none-some u (sym none ∙ ap old (eqb-true k j h) ∙ e))
        go false h = e

    agrees : (args : Args) → Agrees old args × (t ≡ args k) → (j : ℕ) (u : O.MlType Name) (b : Bool) → nat_eq k j ≡ b → cond b (Some t) (old j) ≡ Some u → args j ≡ u
    agrees args p j u true h e = ap args (sym (eqb-true k j h)) ∙ sym p.1 ∙ same_some t u e
    agrees args p j u false h e = p.0 j u e

    opened : AreOpenIn old → IsOpen t → (j : ℕ) (u : O.MlType Name) (b : Bool) → nat_eq k j ≡ b → cond b (Some t) (old j) ≡ Some u → IsOpen u
    opened o p j u true h e = subst IsOpen (same_some t u e) p
    opened o p j u false h e = o j u e

found_agrees : (found : Found) → Agrees found (λ k. argument_found (found k))
unfolding argument_found
found_agrees found k t e = ap argument_found e

open_at : (found : Found) → AreOpenIn found → (k : ℕ) (x : Option (O.MlType Name)) → found k ≡ x → IsOpen (argument_found x)
unfolding argument_found IsOpen
open_at found o k None e = tt
open_at found o k (Some t) e = o k t e

pub fits_decide : (old new : Found) (vs : List Bool) (body t : O.MlType Name) (b : Bool) → ((k : ℕ) → old k ≡ None) → IsOpen t → Fits old new body t b
    → Decides (IsInstance (record { variables = vs; body = body }) t) b
unfolding IsInstance
fits_decide old new vs body t true none o (f, p) =
    let found = p (λ k u e. absurd (none-some u (sym (none k) ∙ e))) o in
    ((λ k. argument_found (new k)), (λ k. open_at new found k (new k) refl), ((f (λ k. argument_found (new k))).0 (found_agrees new)).1)
fits_decide old new vs body t false none o f = λ i. f i.0 (λ k u e. absurd (none-some u (sym (none k) ∙ e))) i.2

-- the same of phrases seen otherwise
pub on_result : {E : Type 0} (old new : Found) (b c t u : O.MlType Name) (r : Result Bool E) → c ≡ b → u ≡ t → IfOk r (Fits old new b t) → IfOk r (Fits old new c u)
on_result old new b c t u r h k f = subst (λ v. IfOk r (Fits old new c v)) (sym k) (subst (λ v. IfOk r (Fits old new v t)) (sym h) f)

pub row_result : {E : Type 0} (old new : Found) (ls ms : List Id) (bs cs ts us : O.MlTypes Name) (r : Result Bool E) → ls ≡ ms → bs ≡ cs → ts ≡ us → IfOk r (FitAll old new bs ts)
    → IfOk r (Fits old new (O.app (O.row ls) cs) (O.app (O.row ms) us))
row_result old new ls ms bs cs ts us (Ok b) e h k f = fits_row old new ls ms cs us b e (subst (λ v. FitAll old new cs v b) k (subst (λ v. FitAll old new v ts b) h f))
row_result old new ls ms bs cs ts us (Err x) e h k f = tt

pub name_result : {E : Type 0} (old new : Found) (m n : Name) (bs cs ts us : O.MlTypes Name) (r : Result Bool E) → m ≡ n → bs ≡ cs → ts ≡ us → IfOk r (FitAll old new bs ts)
    → IfOk r (Fits old new (O.app (O.name m) cs) (O.app (O.name n) us))
name_result old new m n bs cs ts us (Ok b) e h k f = fits_name old new m n cs us b e (subst (λ v. FitAll old new cs v b) k (subst (λ v. FitAll old new v ts b) h f))
name_result old new m n bs cs ts us (Err x) e h k f = tt

pub arrow_result : {E : Type 0} (old mid new : Found) (from to t u : O.MlType Name) (r : Result Bool E) → Fits old mid from t true → IfOk r (Fits mid new to u)
    → IfOk r (Fits old new (O.arrow_of from to) (O.arrow_of t u))
arrow_result old mid new from to t u (Ok b) f g = fits_arrow old mid new from to t u b f g
arrow_result old mid new from to t u (Err x) f g = tt

pub decided : {E : Type 0} (old new : Found) (vs : List Bool) (body t : O.MlType Name) (r : Result Bool E) → ((k : ℕ) → old k ≡ None) → IsOpen t → IfOk r (Fits old new body t)
    → IfOk r (Decides (IsInstance (record { variables = vs; body = body }) t))
decided old new vs body t (Ok b) none o f = fits_decide old new vs body t b none o f
decided old new vs body t (Err x) none o f = tt

pub found_more : (es fs : List (ℕ × Rc MlType Global)) (k : ℕ) (v : Rc MlType Global) (t : O.MlType Name) → type_of v.value ≡ t
    → ((j : ℕ) → lookup (nat_eq j) fs ≡ cond (nat_eq k j) (Some v) (lookup (nat_eq j) es)) → (j : ℕ) → found_in fs j ≡ cond (nat_eq k j) (Some t) (found_in es j)
found_more es fs k v t e h j =
    ap (option_map (λ (t : Rc MlType Global). type_of t.value)) (h j)
    ∙ elim (nat_eq k j) as (λ b. option_map (λ (t : Rc MlType Global). type_of t.value) (cond b (Some v) (lookup (nat_eq j) es)) ≡ cond b (Some t) (found_in es j)) [
      | true ↦ ap Some e
      | false ↦ refl
    ]

pub none_found : (es : List (ℕ × Rc MlType Global)) → es ≡ [] → (k : ℕ) → found_in es k ≡ None
none_found es e k = ap (λ l. found_in l k) e
