-- Arguments of right sides: how many there are, what each is answered, and what comes of the right side with them.
use Rattle.std.proofs.Common.{◌≡◌, ◌<◌, ◌+◌, ℕ, zero, suc, true, false, nat_eq, List, [], ◌∷◌, ◌++◌, length, map, take, drop, get_or, set, slice_get, refl, ap, sym, subst, ◌∙◌, arith, take-append-drop, Some, None, Result, Ok, Err, Vec, Global}
use Rattle.std.proofs.lemmas.Bool.Decides.{nat_tests}
use Rattle.std.proofs.lemmas.Grind.{take_at_read}
use Rattle.std.proofs.lemmas.List.{map-append}
use Rattle.std.specs.List.{AllByRecursion}
use Rattle.std.specs.Result.{IsErrAnd}
use Rattle.std.specs.declared.rc.Rc.{Rc}
use Rattle.sml_lex.specs.declared.fault.Place.{Place}
use Rattle.sml_lex.specs.Faults.{Fault}
use Rattle.sml_tree.specs.Expressions.{TypBind}
use Rattle.sml_tree.specs.Types as T
use Rattle.sml_tree.specs.TypeViews.{ty_of, tys_of}
use Rattle.sml_tree.specs.Withtype.{all_replaced, count_tys, instance, unlisted}
use Rattle.sml_tree.specs.declared.types.Ty.{Ty}
use Rattle.sml_tree.proofs.Lists.{opened}
use Rattle.sml_objects.specs.Initial.{Name}
use Rattle.sml_objects.specs.Maps.{Map, lookup}
use Rattle.sml_objects.specs.Objects.{MlType, bound, free, types_of}
use Rattle.sml_objects.specs.Types.{argument, replace_type}
use Rattle.sml_rules.specs.Answers.{Answer, accepted, refused}
use Rattle.sml_core_rules.specs.Datatypes.{listed}
use Rattle.sml_core_rules.specs.Objects.{Env}
use Rattle.sml_core_rules.specs.Types.{read_ty}
use Rattle.sml_types.specs.Answered.{IsAnswer}
use Rattle.sml_types.specs.Meant.{meant}
use Rattle.sml_types.specs.Sides.{ArgumentsAnswer, IsAccepted, IsAcceptedAs, IsSide, answer_map, answers_of, asked}
use Rattle.sml_types.specs.declared.fault.CoreFault.{CoreFault}
use Rattle.sml_types.specs.declared.fault.CoreFault.TheVariants as R
use Rattle.sml_types.specs.declared.sides.RightSide.{RightSide}
use Rattle.sml_types.specs.declared.written.Written.{Written}
use Rattle.sml_types.proofs.Instances.{instance-read, instance-refused}
use Rattle.sml_types.proofs.Meanings.{meanings}
use Rattle.sml_types.proofs.Readings.{one-meant}
use Rattle.sml_types.proofs.Taken.{taken-next}
use Rattle.sml_types.proofs.UsedArguments.{accepted-next, stays-accepted, used-below}

pub same : (a b : ℕ) → a ≡ b → nat_eq a b ≡ true
same a b e = grind (arith, nat_tests, e)

pub differ : (a b : ℕ) → (a ≡ b → ⊥) → nat_eq a b ≡ false
differ a b n = grind (arith, nat_tests, n)

pub count-replaced : (bs : List (TypBind Place)) (us : List Ty) → count_tys (all_replaced bs (tys_of (map ty_of us))) ≡ length us
count-replaced bs [] = refl
count-replaced bs (u ∷ us) = ap suc (count-replaced bs us)

split-at : {A : Type 0} (xs : List A) (i : ℕ) (x : A) → i < length xs → x ≡ get_or xs i x → xs ≡ take i xs ++ x ∷ drop (i + 1) xs
split-at xs i x lt at = sym (take-append-drop i xs) ∙ ap (λ ys. take i xs ++ ys) (opened xs i x lt at)

-- a list up to an index, and the whole of it
module _ {A B : Type 0} (g : A → B) (xs : List A) (i : ℕ) (x : A) (lt : i < length xs) (at : x ≡ get_or xs i x) where
  pub mapped-next : map g (take (i + 1) xs) ≡ map g (take i xs) ++ g x ∷ []
  mapped-next =
      ap (map g) (taken-next xs i x x lt at) ∙ map-append g (take i xs) (x ∷ [])

  pub mapped-split : map g xs ≡ map g (take i xs) ++ g x ∷ map g (drop (i + 1) xs)
  mapped-split = ap (map g) (split-at xs i x lt at) ∙ map-append g (take i xs) (x ∷ drop (i + 1) xs)

module _ {P : Type 0} (C : Env Name) (vs : Map (MlType Name)) where
  pub length-answers : (us : T.Tys P) → length (answers_of C vs us) ≡ count_tys us
  length-answers T.no_ty = refl
  length-answers (T.and_ty u us) = ap suc (length-answers us)

pub answer-here : {A : Type 0} (C : Env Name) (vs : Map (MlType Name)) (g : A → T.Ty Place) (xs : List A) (k : ℕ) (x : A) → k < length xs → x ≡ get_or xs k x
    → slice_get (answers_of C vs (tys_of (map g xs))) k ≡ Some (read_ty C vs (g x))
answer-here C vs g [] k x lt at = absurd (omega (arith, lt))
answer-here C vs g (y ∷ xs) zero x lt at = ap (λ z. Some (read_ty C vs (g z))) (sym at)
answer-here C vs g (y ∷ xs) (suc k) x lt at = answer-here C vs g xs k x (omega (arith, lt)) at

-- what holds of all
module _ {X : Type 0} where
  first-part : (F : X → Type 0) (xs ys : List X) → AllByRecursion F (xs ++ ys) → AllByRecursion F xs
  first-part F [] ys h = tt
  first-part F (x ∷ xs) ys h = (h.0, first-part F xs ys h.1)

  both-hold : (F G : X → Type 0) (xs : List X) → AllByRecursion F xs → AllByRecursion (λ x. F x → G x) xs → AllByRecursion G xs
  both-hold F G [] h k = tt
  both-hold F G (x ∷ xs) h k = (k.0 h.0, both-hold F G xs h.1 k.1)

  pub weaker : (F G : X → Type 0) (xs : List X) → ((x : X) → F x → G x) → AllByRecursion F xs → AllByRecursion G xs
  weaker F G [] f h = tt
  weaker F G (x ∷ xs) f h = (f x h.0, weaker F G xs f h.1)

  one-more : (F : X → Type 0) (xs : List X) (x : X) → AllByRecursion F xs → F x → AllByRecursion F (xs ++ x ∷ [])
  one-more F [] x h f = (f, tt)
  one-more F (y ∷ xs) x h f = (h.0, one-more F xs x h.1 f)

pub set-length : {X : Type 0} (xs : List X) (k : ℕ) (x : X) → length (set xs k x) ≡ length xs
set-length [] k x = refl
set-length (y ∷ xs) zero x = refl
set-length (y ∷ xs) (suc k) x = ap suc (set-length xs k x)

pub prefix : {X : Type 0} (xs ys : List X) (n : ℕ) → n ≡ length xs → take n (xs ++ ys) ≡ xs
prefix [] ys zero e = refl
prefix [] ys (suc n) e = absurd (omega (arith, e))
prefix (x ∷ xs) ys zero e = absurd (omega (arith, e))
prefix (x ∷ xs) ys (suc n) e = ap (λ zs. x ∷ zs) (prefix xs ys n (omega (arith, e)))

pub any-default : {X : Type 0} (xs : List X) (i : ℕ) (d e : X) → i < length xs → get_or xs i d ≡ get_or xs i e
any-default [] i d e l = absurd (omega (arith, l))
any-default (x ∷ xs) zero d e l = refl
any-default (x ∷ xs) (suc i) d e l = any-default xs i d e (omega (arith, l))

-- one argument more
module _ (os : List (Answer Place (MlType Name))) (ws : List (Rc Written Global)) (used : List ℕ) (i : ℕ) (lt : i < length used)
    (each : AllByRecursion (λ j. j < length os → IsAcceptedAs os (meanings ws) j) (take i used)) where
  abbrev here : ℕ
  here = get_or used i 0

  up-to : take (i + 1) used ≡ take i used ++ here ∷ []
  up-to = (take_at_read used i 0 lt).1

  -- it is read, and stands in its place
  pub argument-read : (w : Rc Written Global) → here < length ws → slice_get os here ≡ Some (accepted (meant w.value))
      → AllByRecursion (λ j. j < length os → IsAcceptedAs os (meanings (set ws here w)) j) (take (i + 1) used)
  argument-read w l a =
      subst (AllByRecursion (λ j. j < length os → IsAcceptedAs os (meanings (set ws here w)) j)) (sym up-to)
      (one-more (λ j. j < length os → IsAcceptedAs os (meanings (set ws here w)) j) (take i used) here
      (weaker (λ j. j < length os → IsAcceptedAs os (meanings ws) j) (λ j. j < length os → IsAcceptedAs os (meanings (set ws here w)) j) (take i used)
      (λ j f m. stays-accepted os ws here w a l j (f m)) each)
      (λ m. (accepted-next os ws [] here w tt a l).0))

  -- there is none
  pub argument-missing : (here < length os → ⊥) → AllByRecursion (λ j. j < length os → IsAcceptedAs os (meanings ws) j) (take (i + 1) used)
  argument-missing none =
      subst (AllByRecursion (λ j. j < length os → IsAcceptedAs os (meanings ws) j)) (sym up-to)
      (one-more (λ j. j < length os → IsAcceptedAs os (meanings ws) j) (take i used) here each (λ m. absurd (none m)))

-- a right side with these arguments
module _ (C : Env Name) (vs : Map (MlType Name)) (un : lookup unlisted vs ≡ None) (b : TypBind Place) (side : RightSide) (is : IsSide C b side)
    (us : T.Tys Place) (count : count_tys us ≡ length b.variables) where
  abbrev answers : List (Answer Place (MlType Name))
  answers = answers_of C vs us

  below : AllByRecursion (λ k. k < length answers) side.used.items
  below =
      subst (λ n. AllByRecursion (λ k. k < n) side.used.items) (sym (length-answers C vs us ∙ count))
      (subst (AllByRecursion (λ k. k < length b.variables)) (sym is.used) (used-below Name b.variables (asked C (listed {N = Name} bound 0 b.variables) b.ty)))

  pub side-reads : (W : List (MlType Name)) → AllByRecursion (λ k. k < length answers → IsAcceptedAs answers W k) side.used.items
      → read_ty C vs (instance b.variables us b.ty) ≡ answer_map (replace_type (argument (types_of W)) free) (read_ty C (listed {N = Name} bound 0 b.variables) b.ty)
  side-reads W each =
      instance-read C vs un b.variables us count b.ty is.own W
      (subst (AllByRecursion (IsAcceptedAs answers W)) is.used (both-hold (λ k. k < length answers) (IsAcceptedAs answers W) side.used.items below each))
      (read_ty C (listed {N = Name} bound 0 b.variables) b.ty) refl

  argument-refused : (pre : List ℕ) (k : ℕ) (post : List ℕ) → side.used.items ≡ pre ++ k ∷ post → AllByRecursion (λ j. j < length answers → IsAccepted answers j) pre
      → (f : Fault Place) → slice_get answers k ≡ Some (refused f) → read_ty C vs (instance b.variables us b.ty) ≡ refused f
  argument-refused pre k post parted each f at =
      instance-refused C vs un b.variables us count b.ty is.own pre post k (sym is.used ∙ parted)
      (both-hold (λ j. j < length answers) (IsAccepted answers) pre (first-part (λ j. j < length answers) pre (k ∷ post) (subst (AllByRecursion (λ j. j < length answers)) parted below)) each) f at

  -- the fault of an argument
  pub side-stops : (ks : List ℕ) → ks ≡ side.used.items → (r : Result (Rc Written Global) CoreFault) (e : CoreFault) → IsErrAnd r (λ k. k ≡ e)
      → ArgumentsAnswer answers ks (Err e) → IsAnswer one-meant r (read_ty C vs (instance b.variables us b.ty))
  side-stops ks same (Ok y) e is' h = absurd is'
  side-stops ks same (Err R.Memory) e is' h = tt
  side-stops ks same (Err (R.Fault x)) e is' h =
      let (pre, k, post, parted, each, at) = subst (λ e. ArgumentsAnswer answers ks (Err e)) (sym is') h in
      argument-refused pre k post (sym same ∙ parted) each _ at

-- Where those before it are accepted and this one has a fault, that is what the reading of the arguments comes to.
pub arguments-stop : (os : List (Answer Place (MlType Name))) (ks : List ℕ) (i k : ℕ) (a : Answer Place (MlType Name)) (W : List (MlType Name))
    (r : Result (Vec (Rc Written Global) Global) CoreFault) (e : CoreFault) → IsErrAnd r (λ k. k ≡ e) → i < length ks → k ≡ get_or ks i k
    → AllByRecursion (λ j. j < length os → IsAcceptedAs os W j) (take i ks) → slice_get os k ≡ Some a → IsAnswer one-meant (Err e) a → ArgumentsAnswer os ks r
arguments-stop os ks i k a W (Ok y) e is lt at each there h = absurd is
arguments-stop os ks i k a W (Err R.Memory) e is lt at each there h = tt
arguments-stop os ks i k a W (Err (R.Fault x)) e is lt at each there h = (
  take i ks,
  k,
  drop (i + 1) ks,
  split-at ks i k lt at,
  weaker (λ j. j < length os → IsAcceptedAs os W j) (λ j. j < length os → IsAccepted os j) (take i ks) (λ j f l. let (t, s, w) = f l in (t, s)) each,
  there ∙ ap (λ a. Some a) (subst (λ e. IsAnswer one-meant (Err e) a) (sym is) h),
)
