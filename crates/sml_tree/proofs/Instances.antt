-- How high a type is with arguments in the place of its variables.
use Rattle.std.proofs.Common.{◌≡◌, ℕ, zero, suc, ◌+◌, ◌-◌, ◌≤◌, max, min, List, [], ◌∷◌, inl, inr, Option, Some, None, false, if◌then◌else◌, nat_eq, refl, ap, sym, ◌∙◌, arith}
use Rattle.std.specs.Str.{bytes_eq}
use Rattle.sml_tree.specs.Trees.{Id}
use Rattle.sml_tree.specs.Names.{Name}
use Rattle.sml_tree.specs.Types.{Ty, Tys, TyField, TyFields, ty_variable, ty_row, ty_tuple, ty_constructor, ty_misapplied, ty_arrow, ty_bracket, no_ty, and_ty, ty_field, no_ty_field, and_ty_field}
use Rattle.sml_tree.specs.Height.{counted}
use Rattle.sml_tree.specs.Heights.{ty_height, tys_height, ty_field_height, ty_fields_height}
use Rattle.sml_tree.specs.Withtype.{argument, either, unlisted, instance, instances, field_instance, field_instances}
use Rattle.sml_tree.specs.CodeDepths.{below, depth, tys_depth, field_depth, fields_depth, without, depths, reach, reached}
use Rattle.sml_tree.proofs.Idents.{id_tells, id_self, id_turned}

pub not_flat : {P : Type 0} (t : Ty P) → 1 ≤ ty_height t
not_flat (ty_variable p v) = omega arith
not_flat (ty_row p fs) = omega arith
not_flat (ty_tuple p ts) = omega arith
not_flat (ty_constructor p ts c) = omega arith
not_flat (ty_misapplied p ts c) = omega arith
not_flat (ty_arrow p t u) = omega arith
not_flat (ty_bracket p t) = omega arith

reach_of : (d h : ℕ) → reach (suc d) h ≡ counted (d + h)
reach_of d h =
    let a : suc d - 1 + h ≡ d + h = omega arith in
    let b : nat_eq (suc d) 0 ≡ false = grind arith in
    ap (λ t. if t then 0 else counted (suc d - 1 + h)) b ∙ ap counted a

pub reach_below : (d h : ℕ) → reach (below d) h ≡ counted (min d 4294967294 + h)
reach_below d h = ap (λ n. reach n h) (let a : below d ≡ suc (min d 4294967294) = omega arith in a) ∙ reach_of (min d 4294967294) h

pub reach_max : (m n h : ℕ) → reach (max m n) h ≡ max (reach m h) (reach n h)
reach_max zero n h = let a : max 0 n ≡ n = omega arith in let b : max 0 (reach n h) ≡ reach n h = omega arith in ap (λ k. reach k h) a ∙ sym b
reach_max (suc m) zero h = let a : max (suc m) 0 ≡ suc m = omega arith in let b : max (reach (suc m) h) 0 ≡ reach (suc m) h = omega arith in ap (λ k. reach k h) a ∙ sym b
reach_max (suc m) (suc n) h =
    let a : max (suc m) (suc n) ≡ suc (max m n) = omega arith in
    let b : counted (max m n + h) ≡ max (counted (m + h)) (counted (n + h)) = omega arith in
    ap (λ k. reach k h) a ∙ reach_of (max m n) h ∙ b ∙ sym (ap (max (reach (suc m) h)) (reach_of n h) ∙ ap (λ k. max k (counted (n + h))) (reach_of m h))

pub without_same : (x : Id) (f g : Id → ℕ) (v : Id) → (bytes_eq v x ≡ false → f v ≡ g v) → without x f v ≡ without x g v
without_same x f g v same =
    elim (id_tells v x) [
      | inl y ↦ ap (λ b. if b then 0 else f v) y.0 ∙ sym (ap (λ b. if b then 0 else g v) y.0)
      | inr y ↦ ap (λ b. if b then 0 else f v) y.0 ∙ same y.0 ∙ sym (ap (λ b. if b then 0 else g v) y.0)
    ]

without_max : (x : Id) (f g h : Id → ℕ) → ((v : Id) → f v ≡ max (g v) (h v)) → (v : Id) → without x f v ≡ max (without x g v) (without x h v)
without_max x f g h e v =
    elim (id_tells v x) [
      | inl y ↦ ap (λ b. if b then 0 else f v) y.0 ∙ sym (ap (λ b. max (if b then 0 else g v) (if b then 0 else h v)) y.0)
      | inr y ↦ ap (λ b. if b then 0 else f v) y.0 ∙ e v ∙ sym (ap (λ b. max (if b then 0 else g v) (if b then 0 else h v)) y.0)
    ]

pub reached_max : {P : Type 0} (f g h : Id → ℕ) → ((v : Id) → f v ≡ max (g v) (h v)) → (xs : List (Name P)) (ts : Tys P) → reached (depths f xs) ts ≡ max (reached (depths g xs) ts) (reached (depths h xs) ts)
reached_max f g h e [] ts = refl
reached_max f g h e (x ∷ xs) no_ty = refl
reached_max f g h e (x ∷ xs) (and_ty t ts) =
    let here : reach (f x.id) (ty_height t) ≡ max (reach (g x.id) (ty_height t)) (reach (h x.id) (ty_height t)) =
    ap (λ n. reach n (ty_height t)) (e x.id) ∙ reach_max (g x.id) (h x.id) (ty_height t) in
    let rest = reached_max (without x.id f) (without x.id g) (without x.id h) (without_max x.id f g h e) xs ts in
    omega (arith, here, rest)

pub reached_same : {P : Type 0} (f g : Id → ℕ) → ((v : Id) → f v ≡ g v) → (xs : List (Name P)) (ts : Tys P) → reached (depths f xs) ts ≡ reached (depths g xs) ts
reached_same f g e [] ts = refl
reached_same f g e (x ∷ xs) no_ty = refl
reached_same f g e (x ∷ xs) (and_ty t ts) =
    let here : reach (f x.id) (ty_height t) ≡ reach (g x.id) (ty_height t) = ap (λ n. reach n (ty_height t)) (e x.id) in
    let rest = reached_same (without x.id f) (without x.id g) (λ v. without_same x.id f g v (λ _. e v)) xs ts in
    omega (arith, here, rest)

pub reached_nowhere : {P : Type 0} (f : Id → ℕ) → ((v : Id) → f v ≡ 0) → (xs : List (Name P)) (ts : Tys P) → reached (depths f xs) ts ≡ 0
reached_nowhere f e [] ts = refl
reached_nowhere f e (x ∷ xs) no_ty = refl
reached_nowhere f e (x ∷ xs) (and_ty t ts) =
    let here : reach (f x.id) (ty_height t) ≡ 0 = ap (λ n. reach n (ty_height t)) (e x.id) in
    let rest = reached_nowhere (without x.id f) (λ v. without_same x.id f (λ _. 0) v (λ _. e v) ∙ none x.id v) xs ts in
    omega (arith, here, rest)
  where
    none : (x v : Id) → without x (λ _. 0) v ≡ 0
    none x v = elim (id_tells v x) [ inl y ↦ ap (λ b. if b then 0 else 0) y.0 | inr y ↦ ap (λ b. if b then 0 else 0) y.0 ]

-- how high the argument in the place of a variable makes what it stands in so deep
abbrev of_argument : {P : Type 0} → ℕ → Option (Ty P) → ℕ
of_argument n None = 0
of_argument n (Some t) = reach n (ty_height t)

no_argument : {P : Type 0} (u : Id) (xs : List (Name P)) → argument u xs no_ty ≡ None
no_argument u [] = refl
no_argument u (x ∷ xs) =
    elim (id_tells u x.id) [
      | inl y ↦ ap (λ b. if b then None else argument u xs no_ty) y.0
      | inr y ↦ ap (λ b. if b then None else argument u xs no_ty) y.0 ∙ no_argument u xs
    ]

abbrev only : Id → ℕ → Id → ℕ
only u n = λ v. if bytes_eq v u then n else 0

pub reached_one : {P : Type 0} (u : Id) (n : ℕ) (xs : List (Name P)) (ts : Tys P) → reached (depths (only u n) xs) ts ≡ of_argument n (argument u xs ts)
reached_one u n [] ts = refl
reached_one u n (x ∷ xs) no_ty = sym (ap (of_argument n) (no_argument u (x ∷ xs)))
reached_one u n (x ∷ xs) (and_ty t ts) =
    elim (id_tells u x.id) [
      | inl y ↦
          let here : reach (only u n x.id) (ty_height t) ≡ reach n (ty_height t) = ap (λ z. reach (only u n z) (ty_height t)) (sym y.1) ∙ ap (λ b. reach (if b then n else 0) (ty_height t)) (id_self u) in
          let rest : reached (depths (without x.id (only u n)) xs) ts ≡ 0 = reached_nowhere (without x.id (only u n)) (λ v. gone v x.id (ap (bytes_eq v) y.1)) xs ts in
          let found : of_argument n (argument u (x ∷ xs) (and_ty t ts)) ≡ reach n (ty_height t) = ap (λ b. of_argument n (if b then Some t else argument u xs ts)) y.0 in
          omega (arith, here, rest, found)
      | inr y ↦
          let here : reach (only u n x.id) (ty_height t) ≡ 0 = ap (λ b. reach (if b then n else 0) (ty_height t)) (id_turned u x.id y.0) in
          let rest : reached (depths (without x.id (only u n)) xs) ts ≡ of_argument n (argument u xs ts) = reached_same (without x.id (only u n)) (only u n) (λ v. kept v x.id (id_turned u x.id y.0)) xs ts ∙ reached_one u n xs ts in
          let found : of_argument n (argument u (x ∷ xs) (and_ty t ts)) ≡ of_argument n (argument u xs ts) = ap (λ b. of_argument n (if b then Some t else argument u xs ts)) y.0 in
          omega (arith, here, rest, found)
    ]
  where
    gone : (v x : Id) → bytes_eq v u ≡ bytes_eq v x → without x (only u n) v ≡ 0
    gone v x e =
        elim (id_tells v x) [
          | inl z ↦ ap (λ b. if b then 0 else only u n v) z.0
          | inr z ↦ ap (λ b. if b then 0 else only u n v) z.0 ∙ ap (λ b. if b then n else 0) (e ∙ z.0)
        ]

    kept : (v x : Id) → bytes_eq x u ≡ false → without x (only u n) v ≡ only u n v
    kept v x e =
        elim (id_tells v x) [
          | inl z ↦ ap (λ b. if b then 0 else only u n v) z.0 ∙ sym (ap (only u n) z.1 ∙ ap (λ b. if b then n else 0) e)
          | inr z ↦ ap (λ b. if b then 0 else only u n v) z.0
        ]

-- the argument in the place of a variable
variable_height : {P : Type 0} (p : P) (u : Id) (o : Option (Ty P)) (d : ℕ) → counted (d + ty_height (either (ty_variable p u) o)) ≡ max (counted (d + 1)) (of_argument (below d) o)
variable_height p u None d = omega arith
variable_height p u (Some t) d = let a = reach_below d (ty_height t) in let b = not_flat t in omega (arith, a, b)

-- one level more
lower : (d m n r : ℕ) → counted (below d + m) ≡ max (counted (below d + n)) r → counted (d + suc m) ≡ max (counted (d + suc n)) r
lower d m n r e = omega (arith, e)

spread : (d m n : ℕ) → counted (d + max m n) ≡ max (counted (d + m)) (counted (d + n))
spread d m n = omega arith

exchanged : (a b r s : ℕ) → max (max a r) (max b s) ≡ max (max a b) (max r s)
exchanged a b r s = omega arith

-- two parts beside each other
both : (d m n k l r s t : ℕ) → counted (d + m) ≡ max (counted (d + k)) r → counted (d + n) ≡ max (counted (d + l)) s → t ≡ max r s → counted (d + max m n) ≡ max (counted (d + max k l)) t
both d m n k l r s t e f g =
    spread d m n ∙ ap (λ a. max a (counted (d + n))) e ∙ ap (max (max (counted (d + k)) r)) f ∙ exchanged (counted (d + k)) (counted (d + l)) r s
    ∙ sym (ap (λ a. max a t) (spread d k l) ∙ ap (max (max (counted (d + k)) (counted (d + l)))) g)

mutual
  pub instance_height : {P : Type 0} (xs : List (Name P)) (ts : Tys P) (t : Ty P) (d : ℕ) → counted (d + ty_height (instance xs ts t)) ≡ max (counted (d + ty_height t)) (reached (depths (λ v. depth d v t) xs) ts)
  instance_height xs ts (ty_variable p u) d =
      variable_height p unlisted (argument u xs ts) d ∙ sym (ap (max (counted (d + 1))) (reached_one u (below d) xs ts))
  instance_height xs ts (ty_row p fs) d = lower d _ _ _ (fields_instance_height xs ts fs (below d))
  instance_height xs ts (ty_tuple p us) d = lower d _ _ _ (instances_height xs ts us (below d))
  instance_height xs ts (ty_constructor p us c) d = lower d _ _ _ (instances_height xs ts us (below d))
  instance_height xs ts (ty_misapplied p us c) d = lower d _ _ _ (instances_height xs ts us (below d))
  instance_height xs ts (ty_arrow p t u) d =
      lower d _ _ _ (both (below d) _ _ _ _ _ _ _ (instance_height xs ts t (below d)) (instance_height xs ts u (below d))
      (reached_max (λ v. max (depth (below d) v t) (depth (below d) v u)) (λ v. depth (below d) v t) (λ v. depth (below d) v u) (λ v. refl) xs ts))
  instance_height xs ts (ty_bracket p t) d = lower d _ _ _ (instance_height xs ts t (below d))

  pub instances_height : {P : Type 0} (xs : List (Name P)) (ts : Tys P) (us : Tys P) (d : ℕ) → counted (d + tys_height (instances xs ts us)) ≡ max (counted (d + tys_height us)) (reached (depths (λ v. tys_depth d v us) xs) ts)
  instances_height xs ts no_ty d = let a = reached_nowhere (λ v. 0) (λ v. refl) xs ts in omega (arith, a)
  instances_height xs ts (and_ty t us) d =
      both d _ _ _ _ _ _ _ (instance_height xs ts t d) (instances_height xs ts us d)
      (reached_max (λ v. max (depth d v t) (tys_depth d v us)) (λ v. depth d v t) (λ v. tys_depth d v us) (λ v. refl) xs ts)

  field_instance_height : {P : Type 0} (xs : List (Name P)) (ts : Tys P) (f : TyField P) (d : ℕ) → counted (d + ty_field_height (field_instance xs ts f)) ≡ max (counted (d + ty_field_height f)) (reached (depths (λ v. field_depth d v f) xs) ts)
  field_instance_height xs ts (ty_field l t) d = instance_height xs ts t d

  fields_instance_height : {P : Type 0} (xs : List (Name P)) (ts : Tys P) (fs : TyFields P) (d : ℕ) → counted (d + ty_fields_height (field_instances xs ts fs)) ≡ max (counted (d + ty_fields_height fs)) (reached (depths (λ v. fields_depth d v fs) xs) ts)
  fields_instance_height xs ts no_ty_field d = let a = reached_nowhere (λ v. 0) (λ v. refl) xs ts in omega (arith, a)
  fields_instance_height xs ts (and_ty_field f fs) d =
      both d _ _ _ _ _ _ _ (field_instance_height xs ts f d) (fields_instance_height xs ts fs d)
      (reached_max (λ v. max (field_depth d v f) (fields_depth d v fs)) (λ v. field_depth d v f) (λ v. fields_depth d v fs) (λ v. refl) xs ts)
