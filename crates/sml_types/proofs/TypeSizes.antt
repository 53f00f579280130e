-- Bindings of types: how large their right sides are, and those that a map of them has.
use Rattle.std.proofs.Common.{◌≡◌, ◌<◌, ◌≤◌, ℕ, zero, suc, List, [], ◌∷◌, ◌++◌, length, map, nat_lt, not, Bool, true, false, Some, None, Result, Ok, Err, refl, ap, sym, subst, ◌∙◌, arith}
use Rattle.std.proofs.lemmas.Bool.{ltb-false, ltb-true}
use Rattle.std.specs.Result.{IsErrAnd}
use Rattle.std.specs.List.{AllByRecursion}
use Rattle.std.specs.declared.cmp.Ordering.{Ordering}
use Rattle.std.specs.declared.cmp.Ordering.TheVariants.{Less, Equal, Greater}
use Rattle.sml_lex.specs.Faults.{Fault, fault_of}
use Rattle.sml_lex.specs.declared.fault.Code.TheVariants.{E7}
use Rattle.sml_lex.specs.declared.fault.Place.{Place}
use Rattle.sml_tree.specs.Trees.{Id}
use Rattle.sml_tree.specs.Expressions.{TypBind}
use Rattle.sml_objects.specs.Initial.{Name}
use Rattle.sml_objects.specs.Maps.{Map, by_order, lookup, order_of, put}
use Rattle.sml_objects.specs.Objects.{MlType, Outside}
use Rattle.sml_objects.specs.Sizes.{type_size}
use Rattle.sml_objects.proofs.Puts.{at, lookup-put, same_ident}
use Rattle.sml_bases.specs.Views.{env_of}
use Rattle.sml_bases.specs.declared.objects.Env as P
use Rattle.sml_rules.specs.Answers.{Answer, accepted, fault, refused}
use Rattle.sml_core_rules.specs.Answers.{check}
use Rattle.sml_core_rules.specs.Datatypes.{AreSmall, IsSmall, read_type_binds}
use Rattle.sml_core_rules.specs.Objects.{Env, TyStr, of_types}
use Rattle.sml_types.specs.Answered.{IsAnswer}
use Rattle.sml_types.specs.Bindings.{AreApart, TypesAnswer, put_types, read_sides, type_str_of}
use Rattle.sml_types.specs.Sides.{answer_map}
use Rattle.sml_types.proofs.TypeBinds.{binds-read, sides-count}
use Rattle.sml_types.specs.declared.fault.CoreFault.{CoreFault}
use Rattle.sml_types.specs.declared.fault.CoreFault.TheVariants as R

abbrev Types : Type 0
Types = List (MlType Name)

none-is-next : (n : ℕ) → zero ≡ suc n → ⊥
none-is-next n e = omega (arith, e)

one-fewer : (m n : ℕ) → suc m ≡ suc n → m ≡ n
one-fewer m n e = omega (arith, e)

above : (k n : ℕ) → k < n → n ≤ k → ⊥
above k n l h = omega (arith, l, h)

none-some : {X : Type 0} (x : X) → None ≡ Some x → ⊥
none-some x e = cc

refused-accepted : {X : Type 0} (f : Fault Place) (x : X) → ◌≡◌ {A = Answer Place X} (refused f) (accepted x) → ⊥
refused-accepted f x e = cc

same-fault : {X : Type 0} (f g : Fault Place) → ◌≡◌ {A = Answer Place X} (refused g) (refused f) → f ≡ g
same-fault f g e = cc

-- sizes

abbrev pub AllSmall : Types → Type 0
AllSmall ts = AllByRecursion (λ t. type_size t ≤ 10000) ts

pub small-next : (ts : Types) (t : MlType Name) → AllSmall ts → type_size t ≤ 10000 → AllSmall (ts ++ t ∷ [])
small-next [] t h s = (s, tt)
small-next (u ∷ ts) t h s = (h.0, small-next ts t h.1 s)

pub small-there : (ts us : Types) (t : MlType Name) → AllSmall (ts ++ t ∷ us) → type_size t ≤ 10000
small-there [] us t h = h.0
small-there (u ∷ ts) us t h = small-there ts us t h.1

-- what is asked of a size
pub size-fits : (k n : ℕ) (f : Fault Place) → check (not (nat_lt k n)) f ≡ accepted tt → n ≤ k
size-fits k n f e = go (nat_lt k n) refl e
  where
    go : (b : Bool) → nat_lt k n ≡ b → check (not b) f ≡ accepted tt → n ≤ k
    go true l h = absurd (refused-accepted f tt h)
    go false l h = ltb-false k n l

pub size-exceeds : (k n : ℕ) (f g : Fault Place) → check (not (nat_lt k n)) f ≡ refused g → (n ≤ k → ⊥) × (g ≡ f)
size-exceeds k n f g e = go (nat_lt k n) refl e
  where
    go : (b : Bool) → nat_lt k n ≡ b → check (not b) f ≡ refused g → (n ≤ k → ⊥) × (g ≡ f)
    go true l h = ((λ s. above k n (ltb-true k n l) s), same-fault {X = Unit {0}} g f h)
    go false l h = absurd (refused-accepted g tt (sym h))

abbrev MapSmall : Map (TyStr Name) → Type 0
MapSmall m = AreSmall (λ t. t.function) m

small-put : (x : Id) (v : TyStr Name) (m : Map (TyStr Name)) → IsSmall v.function → MapSmall m → MapSmall (put x v m)
small-put x v [] s h = (s, tt)
small-put x v (e ∷ m) s h = go (order_of x e.0) (small-put x v m s h.1)
  where
    go : (o : Ordering) → MapSmall (put x v m) → MapSmall (by_order o ((x, v) ∷ e ∷ m) ((e.0, v) ∷ m) (e ∷ put x v m))
    go Less k = (s, h)
    go Equal k = (s, h.1)
    go Greater k = (h.0, k)

put-small : (x : Id) (v : TyStr Name) (m : Map (TyStr Name)) → lookup x m ≡ None → MapSmall (put x v m) → IsSmall v.function × MapSmall m
put-small x v [] n h = h
put-small x v (e ∷ m) n h = go (order_of x e.0) (put-small x v m) n h
  where
    go : (o : Ordering) → (lookup x m ≡ None → MapSmall (put x v m) → IsSmall v.function × MapSmall m)
        → by_order o (lookup x m) (Some e.1) (lookup x m) ≡ None → MapSmall (by_order o ((x, v) ∷ e ∷ m) ((e.0, v) ∷ m) (e ∷ put x v m))
        → IsSmall v.function × MapSmall (e ∷ m)
    go Less k n h = h
    go Equal k n h = absurd (none-some e.1 (sym n))
    go Greater k n h = let r = k n h.1 in (r.0, (h.0, r.1))

passed : {X : Type 0} (o : Ordering) (a b : X) → (o ≡ Equal → ⊥) → at o a b ≡ b
passed Less a b h = refl
passed Equal a b h = absurd (h refl)
passed Greater a b h = refl

-- none of these has an entry
abbrev pub HaveNone : Map (TyStr Name) → List Id → Type 0
HaveNone m xs = AllByRecursion (λ x. lookup x m ≡ None) xs

pub none-at-first : (xs : List Id) → HaveNone [] xs
none-at-first [] = tt
none-at-first (x ∷ xs) = (refl, none-at-first xs)

none-put : (x : Id) (v : TyStr Name) (m : Map (TyStr Name)) (ys : List Id) → Outside x ys → HaveNone m ys → HaveNone (put x v m) ys
unfolding Outside
none-put x v m [] o n = tt
none-put x v m (y ∷ ys) o n =
    (lookup-put y x v m ∙ passed (order_of y x) (Some v) (lookup y m) (λ s. o.0 (same_ident y x s)) ∙ n.0, none-put x v m ys o.1 n.1)

-- where all right sides are small, the map has small ones
pub all-small : (m : Map (TyStr Name)) (bs : List (TypBind Place)) (ts : Types) → MapSmall m → AllSmall ts → MapSmall (put_types m bs ts)
all-small m [] ts h s = h
all-small m (b ∷ bs) [] h s = h
all-small m (b ∷ bs) (t ∷ ts) h s =
    all-small (put b.name.id (type_str_of b t) m) bs ts (small-put b.name.id (type_str_of b t) m s.0 h) s.1

-- and the other way round, where no name stands twice
pub were-small : (m : Map (TyStr Name)) (bs : List (TypBind Place)) (ts : Types) → AreApart (map (λ b. b.name.id) bs) → HaveNone m (map (λ b. b.name.id) bs)
    → length ts ≡ length bs → MapSmall (put_types m bs ts) → MapSmall m × AllSmall ts
were-small m [] [] a n e h = (h, tt)
were-small m [] (t ∷ ts) a n e h = absurd (none-is-next (length ts) (sym e))
were-small m (b ∷ bs) [] a n e h = absurd (none-is-next (length bs) e)
were-small m (b ∷ bs) (t ∷ ts) a n e h =
    let r = were-small (put b.name.id (type_str_of b t) m) bs ts a.1 (none-put b.name.id (type_str_of b t) m (map (λ b. b.name.id) bs) a.0 n.1) (one-fewer (length ts) (length bs) e) h in
    let q = put-small b.name.id (type_str_of b t) m n.0 r.0 in
    (q.1, (q.0, r.1))

-- an answer to bindings of types through `?`
pub types-through : (r : Result P.Env CoreFault) (e : CoreFault) (p : Place) (a : Answer Place (Map (TyStr Name))) → IsErrAnd r (λ k. k ≡ e)
    → TypesAnswer (Err e) p a → TypesAnswer r p a
types-through (Ok y) e p a is h = absurd is
types-through (Err f) e p a is h = subst (λ k. TypesAnswer (Err k) p a) (sym is) h

module _ (C : Env Name) (p : Place) (bs : List (TypBind Place)) where
  -- a right side is refused
  pub types-stop : {X : Type 0} (f : X → Types) (e : CoreFault) → IsAnswer f (Err e) (read_sides C bs) → TypesAnswer (Err e) p (read_type_binds C [] bs)
  types-stop f R.Memory h = tt
  types-stop f (R.Fault g) h = subst (TypesAnswer (Err (R.Fault g)) p) (sym (binds-read C [] bs ∙ ap (answer_map (put_types [] bs)) h)) refl

  module _ (ts : Types) (read : read_sides C bs ≡ accepted ts) where
    are : read_type_binds C [] bs ≡ accepted (put_types [] bs ts)
    are = binds-read C [] bs ∙ ap (answer_map (put_types [] bs)) read

    -- one of them is too large
    pub types-large : AreApart (map (λ b. b.name.id) bs) → (before after : Types) (t : MlType Name) → ts ≡ before ++ t ∷ after → {X : Type 0} (f : X → Unit {0}) (e : CoreFault)
        → IsAnswer f (Err e) (check (not (nat_lt 10000 (type_size t))) (fault E7 p)) → TypesAnswer (Err e) p (read_type_binds C [] bs)
    types-large apart before after t is f R.Memory h = tt
    types-large apart before after t is f (R.Fault g) h =
        let x = size-exceeds 10000 (type_size t) (fault E7 p) (fault_of g) h in
        subst (TypesAnswer (Err (R.Fault g)) p) (sym are)
        ((λ s. x.0 (small-there before after t (subst AllSmall is (were-small [] bs ts apart (none-at-first (map (λ b. b.name.id) bs)) (sides-count C bs ts read) s).1))), x.1)

    -- all are read, and small
    pub types-given : AllSmall ts → (e : P.Env) → env_of e ≡ of_types (put_types [] bs ts) → TypesAnswer (Ok e) p (read_type_binds C [] bs)
    types-given small e is = subst (TypesAnswer (Ok e) p) (sym are) (all-small [] bs ts tt small, is)
