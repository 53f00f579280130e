-- A right side is read with arguments in the place of its variables as it is read by itself, with the types of the arguments in their
-- place, where the arguments that it asks for have types; else the first of these that has a fault has the fault of the whole.
use Rattle.std.proofs.Common.{◌≡◌, ◌⊎◌, ◌≤◌, ◌<◌, ℕ, zero, suc, ◌+◌, Bool, true, false, cond, if◌then◌else◌, ◌||◌, nat_eq, inl, inr, Option, Some, None, List, [], ◌∷◌, ◌++◌, length, map, slice_get, decimal, refl, ap, sym, ◌∙◌, subst, arith, eqb-true}
use Rattle.std.specs.List.{list_any, AllByRecursion}
use Rattle.std.specs.Str.{bytes_eq}
use Rattle.std.specs.declared.cmp.Ordering.{Ordering}
use Rattle.std.specs.declared.cmp.Ordering.TheVariants.{Less, Equal, Greater}
use Rattle.std.proofs.lemmas.Bool.{cases_lt, false≢true}
use Rattle.sml_lex.specs.declared.fault.Code.TheVariants.{E2, E4}
use Rattle.sml_lex.specs.Faults.{Fault}
use Rattle.sml_tree.specs.Trees.{Id}
use Rattle.sml_tree.specs.Names.{Name, LongName}
use Rattle.sml_tree.specs.Types.{Ty, Tys, TyFields, ty_variable, ty_row, ty_tuple, ty_constructor, ty_misapplied, ty_arrow, ty_bracket, no_ty, and_ty, ty_field, no_ty_field, and_ty_field}
use Rattle.sml_tree.specs.Withtype.{either, unlisted, count_tys, instance, instances, field_instances, argument as argument_ty}
use Rattle.sml_objects.specs.Labels.{label_order}
use Rattle.sml_objects.specs.Maps.{Map, lookup, by_order}
use Rattle.sml_objects.specs.Objects.{MlType, MlTypes, bound, free, app, row, no_type, and_type, arrow_of, tuple_of, labels_of, types_of}
use Rattle.sml_objects.specs.Types.{replace_type, replace_types, argument, argument_or, applied}
use Rattle.sml_rules.specs.Answers.{Answer, accepted, refused, fault}
use Rattle.sml_rules.specs.Lookups.{Found, found, no_path, no_entry}
use Rattle.sml_core_rules.specs.Answers.{◌>>=◌, give, check, need}
use Rattle.sml_core_rules.specs.Datatypes.{listed}
use Rattle.sml_core_rules.specs.Lookups.{type_at}
use Rattle.sml_core_rules.specs.Objects.{Env, TyStr, replaced}
use Rattle.sml_core_rules.specs.Types.{Fields, put_field, row_of, count_types, variable_type, read_ty, read_tys, read_fields}
use Rattle.sml_type_maps.specs.Counted.{uses_in, uses_in_all}
use Rattle.sml_types.specs.Sides.{IsAccepted, IsAcceptedAs, answer_map, asked, asked_in_all, asked_in_fields, then_asked, bound_number, with_number, numbers_after, answers_of, FindsOwn, AppliesOwn, AllApplyOwn, FieldsApplyOwn}
use Rattle.sml_types.proofs.Listing.{by-bytes}
use Rattle.sml_types.proofs.Meanings.{itself-used}

-- Answers, one after the other

module _ {P : Type 0} where
  abbrev pass : Answer P (Unit {0})
  pass = accepted tt

  nothing-after : (m : Answer P (Unit {0})) → m ≡ (m >>= λ u. accepted tt)
  unfolding ◌>>=◌
  nothing-after (refused f) = refl
  nothing-after (accepted u) = refl

  in-turn : {X Y Z : Type 0} (m : Answer P X) (k : X → Answer P Y) (l : Y → Answer P Z) → ((m >>= k) >>= l) ≡ (m >>= λ x. k x >>= l)
  unfolding ◌>>=◌
  in-turn (refused f) k l = refl
  in-turn (accepted x) k l = refl

  -- what was passed once is passed again
  twice : (m n : Answer P (Unit {0})) → (m >>= λ u. n) ≡ ((m >>= λ u. n) >>= λ u. m)
  unfolding ◌>>=◌
  twice (refused f) n = refl
  twice (accepted u) n = nothing-after n

  -- what goes on from a mapped answer
  then-read : {X X' Y Y' : Type 0} (m : Answer P (Unit {0})) (r : Answer P X) (f : X → X') (k' : X' → Answer P Y') (k : X → Answer P Y) (g : Y → Y')
      → ((x : X) → k' (f x) ≡ answer_map g (k x)) → ((m >>= λ u. answer_map f r) >>= k') ≡ (m >>= λ u. answer_map g (r >>= k))
  unfolding ◌>>=◌
  then-read (refused e) r f k' k g h = refl
  then-read (accepted u) (refused e) f k' k g h = refl
  then-read (accepted u) (accepted x) f k' k g h = h x

-- The answers at places

-- the fault of an answer, if there is one with a fault
abbrev at_place : {P X : Type 0} → Option (Answer P X) → Answer P (Unit {0})
at_place None = accepted tt
at_place (Some a) = answer_map (λ t. tt) a

module _ {P N : Type 0} (answers : List (Answer P (MlType N))) where
  abbrev need_place : ℕ → Answer P (Unit {0})
  need_place k = at_place (slice_get answers k)

  abbrev need_number : Option ℕ → Answer P (Unit {0})
  need_number None = accepted tt
  need_number (Some k) = need_place k

  abbrev need_places : List ℕ → Answer P (Unit {0})
  need_places [] = accepted tt
  need_places (k ∷ ks) = need_place k >>= λ u. need_places ks

  abbrev need_variables : Map (MlType N) → List Id → Answer P (Unit {0})
  need_variables ws [] = accepted tt
  need_variables ws (x ∷ xs) = need_number (bound_number (lookup x ws)) >>= λ u. need_variables ws xs

  -- lists of places

  places-both : (ks js : List ℕ) → need_places (ks ++ js) ≡ (need_places ks >>= λ u. need_places js)
  unfolding ◌>>=◌
  places-both [] js = refl
  places-both (k ∷ ks) js = ap (λ m. need_place k >>= λ u. m) (places-both ks js) ∙ sym (in-turn (need_place k) (λ u. need_places ks) (λ u. need_places js))

  variables-both : (ws : Map (MlType N)) (xs ys : List Id) → need_variables ws (xs ++ ys) ≡ (need_variables ws xs >>= λ u. need_variables ws ys)
  unfolding ◌>>=◌
  variables-both ws [] ys = refl
  variables-both ws (x ∷ xs) ys =
      ap (λ m. need_number (bound_number (lookup x ws)) >>= λ u. m) (variables-both ws xs ys)
      ∙ sym (in-turn (need_number (bound_number (lookup x ws))) (λ u. need_variables ws xs) (λ u. need_variables ws ys))

  place-again : (k : ℕ) (ks : List ℕ) → list_any (nat_eq k) ks ≡ true → need_places ks ≡ (need_places ks >>= λ u. need_place k)
  place-again k [] h = absurd (false≢true h)
  place-again k (j ∷ js) h = go (nat_eq k j) refl (place-again k js) h
    where
      go : (b : Bool) → nat_eq k j ≡ b → (list_any (nat_eq k) js ≡ true → need_places js ≡ (need_places js >>= λ u. need_place k))
          → (b || list_any (nat_eq k) js) ≡ true → need_places (j ∷ js) ≡ (need_places (j ∷ js) >>= λ u. need_place k)
      go true e r h = twice (need_place j) (need_places js) ∙ ap (λ i. need_places (j ∷ js) >>= λ u. need_place i) (sym (eqb-true k j e))
      go false e r h = ap (λ m. need_place j >>= λ u. m) (r h) ∙ sym (in-turn (need_place j) (λ u. need_places js) (λ u. need_place k))

  place-with : (ks : List ℕ) (n : Option ℕ) → need_places (with_number ks n) ≡ (need_places ks >>= λ u. need_number n)
  place-with ks None = nothing-after (need_places ks)
  place-with ks (Some k) = go (list_any (nat_eq k) ks) refl
    where
      go : (b : Bool) → list_any (nat_eq k) ks ≡ b → need_places (cond b ks (ks ++ k ∷ [])) ≡ (need_places ks >>= λ u. need_place k)
      go true e = place-again k ks e
      go false e = places-both ks (k ∷ []) ∙ ap (λ m. need_places ks >>= λ u. m) (sym (nothing-after (need_place k)))

  -- variables by their places, each once
  numbers-needed : (ws : Map (MlType N)) (ks : List ℕ) (xs : List Id) → need_places (numbers_after ws ks xs) ≡ (need_places ks >>= λ u. need_variables ws xs)
  unfolding numbers_after
  numbers-needed ws ks [] = nothing-after (need_places ks)
  numbers-needed ws ks (x ∷ xs) =
      let n = bound_number (lookup x ws) in
      numbers-needed ws (with_number ks n) xs
      ∙ ap (λ m. m >>= λ u. need_variables ws xs) (place-with ks n)
      ∙ in-turn (need_places ks) (λ u. need_number n) (λ u. need_variables ws xs)

  place-accepted : (k : ℕ) → IsAccepted answers k → need_place k ≡ accepted tt
  place-accepted k h = ap at_place h.1

  places-accepted : (ks : List ℕ) → AllByRecursion (IsAccepted answers) ks → need_places ks ≡ accepted tt
  unfolding ◌>>=◌
  places-accepted [] h = refl
  places-accepted (k ∷ ks) h = ap (λ m. m >>= λ u. need_places ks) (place-accepted k h.0) ∙ places-accepted ks h.1

  first-refused : (pre post : List ℕ) (k : ℕ) (f : Fault P) → AllByRecursion (IsAccepted answers) pre → slice_get answers k ≡ Some (refused f)
      → need_places (pre ++ k ∷ post) ≡ refused f
  unfolding ◌>>=◌
  first-refused [] post k f h e = ap (λ o. at_place o >>= λ u. need_places post) e
  first-refused (j ∷ js) post k f h e = ap (λ m. m >>= λ u. need_places (js ++ k ∷ post)) (place-accepted j h.0) ∙ first-refused js post k f h.1 e

-- Lists of which something holds throughout

module _ {X : Type 0} (F : X → Type 0) where
  all-parts : (xs ys : List X) → AllByRecursion F (xs ++ ys) → AllByRecursion F xs × AllByRecursion F ys
  all-parts [] ys h = (tt, h)
  all-parts (x ∷ xs) ys h = let k = all-parts xs ys h.1 in ((h.0, k.0), k.1)

  more-all : (G : X → Type 0) → ((x : X) → F x → G x) → (xs : List X) → AllByRecursion F xs → AllByRecursion G xs
  more-all G f [] h = tt
  more-all G f (x ∷ xs) h = (f x h.0, more-all G f xs h.1)

  all-of : (xs : List X) → ((x : X) → F x) → AllByRecursion F xs
  all-of [] h = tt
  all-of (x ∷ xs) h = (h x, all-of xs h)

module _ (Q : ℕ → Type 0) where
  stands-in : (k : ℕ) (ks : List ℕ) → list_any (nat_eq k) ks ≡ true → AllByRecursion Q ks → Q k
  stands-in k [] h q = absurd (false≢true h)
  stands-in k (j ∷ js) h q = go (nat_eq k j) refl (λ h. stands-in k js h q.1) h
    where
      go : (b : Bool) → nat_eq k j ≡ b → (list_any (nat_eq k) js ≡ true → Q k) → (b || list_any (nat_eq k) js) ≡ true → Q k
      go true e r h = subst Q (sym (eqb-true k j e)) q.0
      go false e r h = r h

  holds-with : (ks : List ℕ) (n : Option ℕ) → AllByRecursion Q (with_number ks n) → AllByRecursion Q ks × ((k : ℕ) → n ≡ Some k → Q k)
  holds-with ks None q = (q, λ k e. let f : None ≡ Some k = e in absurd cc)
  holds-with ks (Some j) q = go (list_any (nat_eq j) ks) refl q
    where
      this : Q j → (k : ℕ) → Some j ≡ Some k → Q k
      this q k e = let f : Some j ≡ Some k = e in let g : j ≡ k = cc in subst Q g q

      go : (b : Bool) → list_any (nat_eq j) ks ≡ b → AllByRecursion Q (cond b ks (ks ++ j ∷ [])) → AllByRecursion Q ks × ((k : ℕ) → Some j ≡ Some k → Q k)
      go true e q = (q, this (stands-in j ks e q))
      go false e q = let h = all-parts Q ks (j ∷ []) q in (h.0, this h.1.0)

  -- what holds of the places of variables
  holds-at-places : {N : Type 0} (ws : Map (MlType N)) (ks : List ℕ) (xs : List Id) → AllByRecursion Q (numbers_after ws ks xs)
      → AllByRecursion Q ks × AllByRecursion (λ x. (k : ℕ) → bound_number (lookup x ws) ≡ Some k → Q k) xs
  unfolding numbers_after
  holds-at-places ws ks [] q = (q, tt)
  holds-at-places ws ks (x ∷ xs) q =
      let n = bound_number (lookup x ws) in
      let rest = holds-at-places ws (with_number ks n) xs q in
      let h = holds-with ks n rest.0 in (h.0, (h.1, rest.1))

-- Types in the place of bound variables

module _ {N : Type 0} (A : ℕ → MlType N) where
  argument-placed : (d e : MlType N) (ts : MlTypes N) (k : ℕ) → k < count_types ts → argument_or d (replace_types A free ts) k ≡ replace_type A free (argument_or e ts k)
  unfolding replace_type replace_types
  argument-placed d e no_type k l = absurd (omega (arith, l))
  argument-placed d e (and_type t ts) zero l = refl
  argument-placed d e (and_type t ts) (suc k) l = argument-placed d e ts k (omega (arith, l))

  count-placed : (ts : MlTypes N) → count_types (replace_types A free ts) ≡ count_types ts
  unfolding replace_types
  count-placed no_type = refl
  count-placed (and_type t ts) = ap suc (count-placed ts)

  mutual
    unfolding replace_type replace_types uses_in uses_in_all

    -- a type function without other variables than those of its arguments
    body-placed : (us : MlTypes N) (t : MlType N) → ((k : ℕ) → count_types us ≤ k → uses_in t k ≡ 0)
        → replace_type (argument (replace_types A free us)) free t ≡ replace_type A free (replace_type (argument us) free t)
    body-placed us (bound j) h = elim (cases_lt j (count_types us)) [
      | inl l ↦ argument-placed (bound j) (bound j) us j l
      | inr l ↦ absurd (itself-used j (h j l))
    ]
    body-placed us (free v) h = refl
    body-placed us (app g ts) h = ap (app g) (bodies-placed us ts h)

    bodies-placed : (us ts : MlTypes N) → ((k : ℕ) → count_types us ≤ k → uses_in_all ts k ≡ 0)
        → replace_types (argument (replace_types A free us)) free ts ≡ replace_types A free (replace_types (argument us) free ts)
    bodies-placed us no_type h = refl
    bodies-placed us (and_type t ts) h =
        let one : (k : ℕ) → count_types us ≤ k → uses_in t k ≡ 0 = λ k l. let e = h k l in omega (arith, e) in
        let others : (k : ℕ) → count_types us ≤ k → uses_in_all ts k ≡ 0 = λ k l. let e = h k l in omega (arith, e) in
        λ i. and_type (body-placed us t one i) (bodies-placed us ts others i)

  labels-placed : (k : ℕ) (ts : MlTypes N) → labels_of k (replace_types A free ts) ≡ labels_of k ts
  unfolding replace_types
  labels-placed k no_type = refl
  labels-placed k (and_type t ts) = ap (λ ls. decimal k ∷ ls) (labels-placed (suc k) ts)

  tuple-placed : (ts : MlTypes N) → tuple_of (replace_types A free ts) ≡ replace_type A free (tuple_of ts)
  unfolding replace_type replace_types
  tuple-placed ts = ap (λ ls. app (row ls) (replace_types A free ts)) (labels-placed 1 ts)

  row-labels : (us : Fields (MlType N)) → map (λ f. f.0) (replaced (replace_type A free) us) ≡ map (λ f. f.0) us
  row-labels [] = refl
  row-labels (u ∷ us) = ap (λ ls. u.0 ∷ ls) (row-labels us)

  row-types : (us : Fields (MlType N)) → types_of (map (λ f. f.1) (replaced (replace_type A free) us)) ≡ replace_types A free (types_of (map (λ f. f.1) us))
  unfolding replace_types
  row-types [] = refl
  row-types (u ∷ us) = ap (and_type (replace_type A free u.1)) (row-types us)

  row-placed : (us : Fields (MlType N)) → row_of (replaced (replace_type A free) us) ≡ replace_type A free (row_of us)
  unfolding replace_type replace_types
  row-placed us = λ i. app (row (row-labels us i)) (row-types us i)

field-placed : {X Y : Type 0} (f : X → Y) (l : Id) (t : X) (us : Fields X) → replaced f (put_field l t us) ≡ put_field l (f t) (replaced f us)
field-placed f l t [] = refl
field-placed {X} {Y} f l t (u ∷ us) = go (label_order l u.0) (field-placed f l t us)
  where
    go : (o : Ordering) → replaced f (put_field l t us) ≡ put_field l (f t) (replaced f us)
        → replaced f (by_order o ((l, t) ∷ u ∷ us) ((l, t) ∷ us) (u ∷ put_field l t us))
        ≡ by_order o ((l, f t) ∷ replaced f (u ∷ us)) ((l, f t) ∷ replaced f us) ((u.0, f u.1) ∷ put_field l (f t) (replaced f us))
    go Less e = refl
    go Equal e = refl
    go Greater e = ap (λ es. (u.0, f u.1) ∷ es) e

-- Variables and their arguments

module _ {P N : Type 0} (C : Env N) (vs : Map (MlType N)) where
  -- A variable isn't listed, or it has a place, counted from j on, and its argument there.
  abbrev IsPlaced : Id → List (Name P) → Tys P → ℕ → Type 0
  IsPlaced x xs ts j =
      ((lookup x (listed {N = N} bound j xs) ≡ None) × (argument_ty x xs ts ≡ None))
      ⊎ ((i : ℕ) × (u : Ty P) × (lookup x (listed {N = N} bound j xs) ≡ Some (bound (i + j))) × (argument_ty x xs ts ≡ Some u)
      × (slice_get (answers_of C vs ts) i ≡ Some (read_ty C vs u)))

  has-place : (x : Id) (xs : List (Name P)) (ts : Tys P) (j : ℕ) → count_tys ts ≡ length xs → IsPlaced x xs ts j
  has-place x [] ts j e = inl (refl, refl)
  has-place x (n ∷ xs) no_ty j e = absurd (omega (arith, e))
  has-place x (n ∷ xs) (and_ty u ts) j e = go (bytes_eq x n.id) refl (has-place x xs ts (suc j) (omega (arith, e)))
    where
      listed-here : (b : Bool) → bytes_eq x n.id ≡ b → lookup x (listed {N = N} bound j (n ∷ xs)) ≡ cond b (Some (bound j)) (lookup x (listed bound (suc j) xs))
      listed-here b h = by-bytes x n.id (lookup x (listed bound (suc j) xs)) (Some (bound j)) ∙ ap (λ c. cond c (Some (bound j)) (lookup x (listed bound (suc j) xs))) h

      argument-here : (b : Bool) → bytes_eq x n.id ≡ b → argument_ty x (n ∷ xs) (and_ty u ts) ≡ (if b then Some u else argument_ty x xs ts)
      argument-here b h = ap (λ c. if c then Some u else argument_ty x xs ts) h

      go : (b : Bool) → bytes_eq x n.id ≡ b → IsPlaced x xs ts (suc j) → IsPlaced x (n ∷ xs) (and_ty u ts) j
      go true h r = let k : j ≡ 0 + j = omega arith in inr (0, u, listed-here true h ∙ ap (λ i. Some (bound i)) k, argument-here true h, refl)
      go false h (inl (l, a)) = inl (listed-here false h ∙ l, argument-here false h ∙ a)
      go false h (inr (i, v, l, a, s)) =
          let k : i + suc j ≡ suc i + j = omega arith in inr (suc i, v, listed-here false h ∙ l ∙ ap (λ i. Some (bound i)) k, argument-here false h ∙ a, s)

-- Readings

module _ {P N : Type 0} (C : Env N) (A : ℕ → MlType N) where
  -- a type constructor after its arguments
  abbrev constructed : LongName P → MlTypes N → Answer P (MlType N)
  constructed c ts =
      need E2 c.place c.id (type_at C c.id) >>= λ t. check (nat_eq (length t.function.variables) (count_types ts)) (fault E4 c.place) >>= λ u. give (applied t.function ts)

  constructed-placed : (c : LongName P) (ts : MlTypes N) → FindsOwn C c.id → constructed c (replace_types A free ts) ≡ answer_map (replace_type A free) (constructed c ts)
  unfolding ◌>>=◌
  constructed-placed c ts own = go (type_at C c.id) refl
    where
      checked : (t : TyStr N) → type_at C c.id ≡ found t → (b : Bool) → nat_eq (length t.function.variables) (count_types ts) ≡ b
          → (check b (fault E4 c.place) >>= λ u. give (applied t.function (replace_types A free ts))) ≡ answer_map (replace_type A free) (check b (fault E4 c.place) >>= λ u. give (applied t.function ts))
      checked t f true e = let n = eqb-true _ _ e in ap accepted (body-placed A ts t.function.body (λ k l. own t f k (omega (arith, n, l))))
      checked t f false e = refl

      go : (r : Found (TyStr N)) → type_at C c.id ≡ r
          → (need E2 c.place c.id r >>= λ t. check (nat_eq (length t.function.variables) (count_types (replace_types A free ts))) (fault E4 c.place) >>= λ u. give (applied t.function (replace_types A free ts)))
          ≡ answer_map (replace_type A free) (need E2 c.place c.id r >>= λ t. check (nat_eq (length t.function.variables) (count_types ts)) (fault E4 c.place) >>= λ u. give (applied t.function ts))
      go (found t) f =
          ap (λ n. check (nat_eq (length t.function.variables) n) (fault E4 c.place) >>= λ u. give (applied t.function (replace_types A free ts))) (count-placed A ts)
          ∙ checked t f (nat_eq (length t.function.variables) (count_types ts)) refl
      go (no_path s) f = refl
      go no_entry f = refl

  module _ (vs : Map (MlType N)) (out : lookup unlisted vs ≡ None) (xs : List (Name P)) (ts : Tys P) (count : count_tys ts ≡ length xs) where
    abbrev ws : Map (MlType N)
    ws = listed bound 0 xs

    abbrev needed : List Id → Answer P (Unit {0})
    needed ids = need_variables (answers_of C vs ts) ws ids

    -- what stands for the place of a variable is its argument's type, if it has one
    abbrev Fits : Id → Type 0
    Fits x = (k : ℕ) (t : MlType N) → bound_number (lookup x ws) ≡ Some k → slice_get (answers_of C vs ts) k ≡ Some (accepted t) → A k ≡ t

    abbrev AllFit : List Id → Type 0
    AllFit ids = AllByRecursion Fits ids

    -- one part and then the next
    in-order : {X X' Y Y' : Type 0} (ids next : List Id) (r : Answer P X) (q : Answer P X') (f : X → X') (k' : X' → Answer P Y') (k : X → Answer P Y) (g : Y → Y')
        → q ≡ (needed ids >>= λ u. answer_map f r) → ((x : X) → r ≡ accepted x → k' (f x) ≡ (needed next >>= λ u. answer_map g (k x)))
        → (q >>= k') ≡ (needed (ids ++ then_asked r next) >>= λ u. answer_map g (r >>= k))
    unfolding ◌>>=◌
    in-order {X} ids next r q f k' k g e h =
        ap (λ m. m >>= k') e ∙ go (needed ids) r h ∙ ap (λ m. m >>= λ u. answer_map g (r >>= k)) (sym (variables-both (answers_of C vs ts) ws ids (then_asked r next)))
      where
        go : (m : Answer P (Unit {0})) (r : Answer P X) → ((x : X) → r ≡ accepted x → k' (f x) ≡ (needed next >>= λ u. answer_map g (k x)))
            → ((m >>= λ u. answer_map f r) >>= k') ≡ ((m >>= λ u. needed (then_asked r next)) >>= λ u. answer_map g (r >>= k))
        go (refused c) r h = refl
        go (accepted u) (refused c) h = refl
        go (accepted u) (accepted x) h = h x refl

    -- what fits in a part and in the next
    first-fit : {X : Type 0} (ids next : List Id) (r : Answer P X) → AllFit (ids ++ then_asked r next) → AllFit ids
    first-fit ids next r h = (all-parts Fits ids (then_asked r next) h).0

    next-fit : {X : Type 0} (ids next : List Id) (r : Answer P X) (x : X) → r ≡ accepted x → AllFit (ids ++ then_asked r next) → AllFit next
    next-fit ids next r x e h = subst (λ r. AllFit (then_asked r next)) e (all-parts Fits ids (then_asked r next) h).1

    answer-fits : (i : ℕ) (r : Answer P (MlType N)) → ((t : MlType N) → r ≡ accepted t → A i ≡ t)
        → r ≡ ((at_place (Some r) >>= λ u. pass) >>= λ u. accepted (A i))
    unfolding ◌>>=◌
    answer-fits i (refused f) h = refl
    answer-fits i (accepted t) h = ap accepted (sym (h t refl))

    variable-read : (p : P) (x : Id) → Fits x → IsPlaced C vs x xs ts 0
        → read_ty C vs (either (ty_variable p unlisted) (argument_ty x xs ts)) ≡ (needed (x ∷ []) >>= λ u. answer_map (replace_type A free) (variable_type p (lookup x ws)))
    unfolding read_ty replace_type ◌>>=◌
    variable-read p x fits (inl (l, a)) =
        ap (λ o. read_ty C vs (either (ty_variable p unlisted) o)) a
        ∙ ap (variable_type p) out
        ∙ sym (ap (λ o. (need_number (answers_of C vs ts) (bound_number o) >>= λ u. pass) >>= λ u. answer_map (replace_type A free) (variable_type p o)) l)
    variable-read p x fits (inr (i, u, l, a, s)) =
        let k : i + 0 ≡ i = omega arith in
        let at : lookup x ws ≡ Some (bound i) = l ∙ ap (λ j. Some (bound j)) k in
        ap (λ o. read_ty C vs (either (ty_variable p unlisted) o)) a
        ∙ answer-fits i (read_ty C vs u) (λ t e. fits i t (ap bound_number at) (s ∙ ap Some e))
        ∙ sym (ap (λ o. (at_place o >>= λ u. pass) >>= λ u. accepted (A i)) s)
        ∙ sym (ap (λ o. (need_number (answers_of C vs ts) (bound_number o) >>= λ u. pass) >>= λ u. answer_map (replace_type A free) (variable_type p o)) at)

    mutual
      unfolding AppliesOwn AllApplyOwn FieldsApplyOwn read_ty read_tys read_fields asked asked_in_all asked_in_fields replace_type replace_types ◌>>=◌

      pub ty-read : (u : Ty P) → AppliesOwn C u → AllFit (asked C ws u) → read_ty C vs (instance xs ts u) ≡ (needed (asked C ws u) >>= λ n. answer_map (replace_type A free) (read_ty C ws u))
      ty-read (ty_variable p x) o h = variable-read p x h.0 (has-place C vs x xs ts 0 count)
      ty-read (ty_row p fs) o h =
          ap (λ m. m >>= λ r. give (row_of r)) (fields-read [] fs o h)
          ∙ then-read (needed (asked_in_fields C ws fs)) (read_fields C ws [] fs) (replaced (replace_type A free)) (λ r. give (row_of r)) (λ r. give (row_of r)) (replace_type A free) (λ r. ap accepted (row-placed A r))
      ty-read (ty_tuple p us) o h =
          ap (λ m. m >>= λ r. give (tuple_of r)) (tys-read us o h)
          ∙ then-read (needed (asked_in_all C ws us)) (read_tys C ws us) (replace_types A free) (λ r. give (tuple_of r)) (λ r. give (tuple_of r)) (replace_type A free) (λ r. ap accepted (tuple-placed A r))
      ty-read (ty_constructor p us c) o h =
          ap (λ m. m >>= constructed c) (tys-read us o.0 h)
          ∙ then-read (needed (asked_in_all C ws us)) (read_tys C ws us) (replace_types A free) (constructed c) (constructed c) (replace_type A free) (λ r. constructed-placed c r o.1)
      ty-read (ty_misapplied p us c) o h =
          ap (λ m. m >>= λ r. refused (fault E4 c.place)) (tys-read us o h)
          ∙ then-read (needed (asked_in_all C ws us)) (read_tys C ws us) (replace_types A free) (λ r. refused (fault E4 c.place)) (λ r. refused (fault E4 c.place)) (replace_type A free) (λ r. refl)
      ty-read (ty_arrow p u v) o h =
          in-order (asked C ws u) (asked C ws v) (read_ty C ws u) (read_ty C vs (instance xs ts u)) (replace_type A free)
          (λ a. read_ty C vs (instance xs ts v) >>= λ b. give (arrow_of a b)) (λ a. read_ty C ws v >>= λ b. give (arrow_of a b)) (replace_type A free)
          (ty-read u o.0 (first-fit (asked C ws u) (asked C ws v) (read_ty C ws u) h))
          (λ a e. ap (λ m. m >>= λ b. give (arrow_of (replace_type A free a) b)) (ty-read v o.1 (next-fit (asked C ws u) (asked C ws v) (read_ty C ws u) a e h))
          ∙ then-read (needed (asked C ws v)) (read_ty C ws v) (replace_type A free) (λ b. give (arrow_of (replace_type A free a) b)) (λ b. give (arrow_of a b)) (replace_type A free) (λ b. refl))
      ty-read (ty_bracket p u) o h = ty-read u o h

      tys-read : (us : Tys P) → AllApplyOwn C us → AllFit (asked_in_all C ws us) → read_tys C vs (instances xs ts us) ≡ (needed (asked_in_all C ws us) >>= λ n. answer_map (replace_types A free) (read_tys C ws us))
      tys-read no_ty o h = refl
      tys-read (and_ty u us) o h =
          in-order (asked C ws u) (asked_in_all C ws us) (read_ty C ws u) (read_ty C vs (instance xs ts u)) (replace_type A free)
          (λ a. read_tys C vs (instances xs ts us) >>= λ b. give (and_type a b)) (λ a. read_tys C ws us >>= λ b. give (and_type a b)) (replace_types A free)
          (ty-read u o.0 (first-fit (asked C ws u) (asked_in_all C ws us) (read_ty C ws u) h))
          (λ a e. ap (λ m. m >>= λ b. give (and_type (replace_type A free a) b)) (tys-read us o.1 (next-fit (asked C ws u) (asked_in_all C ws us) (read_ty C ws u) a e h))
          ∙ then-read (needed (asked_in_all C ws us)) (read_tys C ws us) (replace_types A free) (λ b. give (and_type (replace_type A free a) b)) (λ b. give (and_type a b)) (replace_types A free) (λ b. refl))

      fields-read : (gs : Fields (MlType N)) (es : TyFields P) → FieldsApplyOwn C es → AllFit (asked_in_fields C ws es)
          → read_fields C vs (replaced (replace_type A free) gs) (field_instances xs ts es) ≡ (needed (asked_in_fields C ws es) >>= λ n. answer_map (replaced (replace_type A free)) (read_fields C ws gs es))
      fields-read gs no_ty_field o h = refl
      fields-read gs (and_ty_field (ty_field l u) es) o h =
          in-order (asked C ws u) (asked_in_fields C ws es) (read_ty C ws u) (read_ty C vs (instance xs ts u)) (replace_type A free)
          (λ a. read_fields C vs (put_field l.id a (replaced (replace_type A free) gs)) (field_instances xs ts es)) (λ a. read_fields C ws (put_field l.id a gs) es) (replaced (replace_type A free))
          (ty-read u o.0 (first-fit (asked C ws u) (asked_in_fields C ws es) (read_ty C ws u) h))
          (λ a e. ap (λ fs. read_fields C vs fs (field_instances xs ts es)) (sym (field-placed (replace_type A free) l.id a gs))
          ∙ fields-read (put_field l.id a gs) es o.1 (next-fit (asked C ws u) (asked_in_fields C ws es) (read_ty C ws u) a e h))

-- what is asked for is the places that are used
used-needed : {P N : Type 0} (answers : List (Answer P (MlType N))) (ws : Map (MlType N)) (xs : List Id) → need_places answers (numbers_after ws [] xs) ≡ need_variables answers ws xs
unfolding ◌>>=◌
used-needed answers ws xs = numbers-needed answers ws [] xs

argument-at : {N : Type 0} (d : MlType N) (W : List (MlType N)) (k : ℕ) (t : MlType N) → slice_get W k ≡ Some t → argument_or d (types_of W) k ≡ t
argument-at d [] k t h = let f : None ≡ Some t = h in absurd cc
argument-at d (w ∷ W) zero t h = let f : Some w ≡ Some t = h in cc
argument-at d (w ∷ W) (suc k) t h = argument-at d W k t h

-- the type that an answer has is the one that stands at its place
fits-as : {P N : Type 0} (answers : List (Answer P (MlType N))) (W : List (MlType N)) (k : ℕ) (t : MlType N) → IsAcceptedAs answers W k
    → slice_get answers k ≡ Some (accepted t) → argument (types_of W) k ≡ t
fits-as answers W k t (s, a, w) b =
    let e : Some (accepted s) ≡ Some (accepted t) = sym a ∙ b in
    let same : s ≡ t = cc in argument-at (bound k) W k s w ∙ same

-- the type of an answer, if it has one
abbrev type_or : {P N : Type 0} → MlType N → Option (Answer P (MlType N)) → MlType N
type_or d None = d
type_or d (Some (refused f)) = d
type_or d (Some (accepted t)) = t

module _ {P N : Type 0} (C : Env N) (vs : Map (MlType N)) (out : lookup unlisted vs ≡ None) (xs : List (Name P)) (ts : Tys P)
    (count : count_tys ts ≡ length xs) (u : Ty P) (own : AppliesOwn C u) where
  abbrev used : List ℕ
  used = numbers_after {N = N} (listed bound 0 xs) [] (asked C (listed bound 0 xs) u)

  -- Where the arguments that are used have types, the reading is that of the right side with them.
  pub instance-read : (W : List (MlType N)) → AllByRecursion (IsAcceptedAs (answers_of C vs ts) W) used
      → (R : Answer P (MlType N)) → read_ty C (listed bound 0 xs) u ≡ R
      → read_ty C vs (instance xs ts u) ≡ answer_map (replace_type (argument (types_of W)) free) R
  unfolding ◌>>=◌
  instance-read W each R e =
      let ws : Map (MlType N) = listed bound 0 xs in
      let answers = answers_of C vs ts in
      let A : ℕ → MlType N = argument (types_of W) in
      let are = holds-at-places (IsAcceptedAs answers W) ws [] (asked C ws u) each in
      ty-read C A vs out xs ts count u own (more-all _ _ (λ x h k t at s. fits-as answers W k t (h k at) s) (asked C ws u) are.1)
      ∙ ap (λ m. m >>= λ n. answer_map (replace_type A free) (read_ty C ws u))
      (sym (used-needed answers ws (asked C ws u)) ∙ places-accepted answers used (more-all _ _ (λ k h. (h.0, h.1)) used each))
      ∙ ap (answer_map (replace_type A free)) e

  -- Where one of them has a fault, and those before it have types, that is the fault.
  pub instance-refused : (pre post : List ℕ) (k : ℕ) → used ≡ pre ++ k ∷ post → AllByRecursion (IsAccepted (answers_of C vs ts)) pre
      → (f : Fault P) → slice_get (answers_of C vs ts) k ≡ Some (refused f) → read_ty C vs (instance xs ts u) ≡ refused f
  unfolding ◌>>=◌
  instance-refused pre post k parted each f at =
      let ws : Map (MlType N) = listed bound 0 xs in
      let answers = answers_of C vs ts in
      let A : ℕ → MlType N = λ k. type_or (bound k) (slice_get answers k) in
      ty-read C A vs out xs ts count u own (all-of _ (asked C ws u) (λ x k t n s. ap (type_or (bound k)) s))
      ∙ ap (λ m. m >>= λ n. answer_map (replace_type A free) (read_ty C ws u))
      (sym (used-needed answers ws (asked C ws u)) ∙ ap (need_places answers) parted ∙ first-refused answers pre post k f each at)
