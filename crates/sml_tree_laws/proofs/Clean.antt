-- Marks that have no flaw: none binds what another does, none a name that can't be bound, and no real constant is among them.
use Rattle.std.proofs.Common.{◌≡◌, ℕ, ◌<◌, List, [], ◌∷◌, ◌++◌, Bool, true, false, Option, Some, None, refl, sym, ap, ◌∙◌, subst, inl, inr, arith}
use Rattle.std.specs.Prelude.{not, ◌&&◌, ◌||◌, if◌then◌else◌}
use Rattle.std.specs.List.{cons_option}
use Rattle.std.proofs.lemmas.Bool.{false≢true}
use Rattle.sml_tree.specs.Trees.{Id}
use Rattle.sml_objects.specs.Appearance.{Stands}
use Rattle.sml_reach.specs.Fits.{Fit}
use Rattle.sml_flaws.specs.declared.role.Space.{Space}
use Rattle.sml_flaws.specs.declared.mark.Mark.{Mark}
use Rattle.sml_flaws.specs.declared.mark.Mark.TheVariants as Mk
use Rattle.sml_flaws.specs.Known.{Key, same, key_in, is_key, is_bound, is_again, token_in, is_used}
use Rattle.sml_flaws.specs.Flaws.{position, flaw_if, unlike, uneven, is_reserved, is_it, names_value, names_constructor, barred_value, barred, real, flaws_by, flaws_of}
use Rattle.sml_tree_laws.proofs.Declared.{if_none}

pub both_none : {A : Type 0} (xs ys : List A) → xs ++ ys ≡ [] → (xs ≡ []) × (ys ≡ [])
both_none [] ys e = (refl, e)
both_none (x ∷ xs) ys e = cc

five_none : {A : Type 0} (a b c d e : Option A) → cons_option a (cons_option b (cons_option c (cons_option d (cons_option e [])))) ≡ [] → (a ≡ None) × (d ≡ None) × (e ≡ None)
five_none None None None None None h = (refl, refl, refl)
five_none (Some x) b c d e h = cc
five_none None (Some x) c d e h = cc
five_none None None (Some x) d e h = cc
five_none None None None (Some x) e h = cc
five_none None None None None (Some x) h = cc

module _ (text : ℕ → Id) (fits : List Fit) where
  pub none_by : (known : List Mark) (m : Mark) (again : Bool) → flaws_by text fits known m again ≡ [] → (again ≡ false) × (barred text fits known m ≡ None) × (real m ≡ None)
  none_by known m again e =
      let n = five_none (flaw_if again (token_in m) _) (unlike text fits known m) (uneven fits known m) (barred text fits known m) (real m) e in
      (if_none again (token_in m) _ n.0, n.1, n.2)

  -- a mark was judged
  record Judged (m : Mark) : Type 0 where
    pub known : List Mark
    pub again : Bool
    pub none : flaws_by text fits known m again ≡ []

  judged : (before marks : List Mark) → flaws_of text fits before marks ≡ [] → (m : Mark) → Stands m marks → Judged m
  unfolding Stands
  judged before [] e m s = absurd s
  judged before (x ∷ marks) e m (inl same) =
      let none = (both_none (flaws_by text fits (x ∷ before) x (is_again text before x)) (flaws_of text fits (x ∷ before) marks) e).0 in
      record { known = x ∷ before; again = is_again text before x; none = subst (λ q. flaws_by text fits (x ∷ before) q (is_again text before x) ≡ []) (sym same) none }
  judged before (x ∷ marks) e m (inr s) =
      judged (x ∷ before) marks (both_none (flaws_by text fits (x ∷ before) x (is_again text before x)) (flaws_of text fits (x ∷ before) marks) e).1 m s

  -- what is bound before

  bound_more : (x : Mark) (before : List Mark) (k : Key) → is_bound text before k ≡ true → is_bound text (x ∷ before) k ≡ true
  bound_more x before k h = go (is_key (key_in text x) k)
    where
      go : (b : Bool) → (if b then true else is_bound text before k) ≡ true
      go true = refl
      go false = h

  bound_here : (x : Mark) (before : List Mark) (k k' : Key) → key_in text x ≡ Some k' → same k' k ≡ true → is_bound text (x ∷ before) k ≡ true
  bound_here x before k k' e h = ap (λ b. if b then true else is_bound text before k) (ap (λ q. is_key q k) e ∙ h)

  later : (before marks : List Mark) → flaws_of text fits before marks ≡ [] → (m : Mark) (k : Key) → Stands m marks → key_in text m ≡ Some k → is_bound text before k ≡ true → ⊥
  unfolding Stands
  later before [] e m k s h b = absurd s
  later before (x ∷ marks) e m k (inl same) h b =
      let none = (both_none (flaws_by text fits (x ∷ before) x (is_again text before x)) (flaws_of text fits (x ∷ before) marks) e).0 in
      let again : is_again text before m ≡ true = ap (λ q. is_bound_again' q) h ∙ b in
      false≢true (sym (none_by (x ∷ before) x (is_again text before x) none).0 ∙ ap (is_again text before) (sym same) ∙ again)
    where
      is_bound_again' : Option Key → Bool
      is_bound_again' None = false
      is_bound_again' (Some key) = is_bound text before key
  later before (x ∷ marks) e m k (inr s) h b =
      later (x ∷ before) marks (both_none (flaws_by text fits (x ∷ before) x (is_again text before x)) (flaws_of text fits (x ∷ before) marks) e).1 m k s h (bound_more x before k b)

  once_from : (before marks : List Mark) → flaws_of text fits before marks ≡ [] → (m m' : Mark) (k k' : Key) → Stands m marks → Stands m' marks → token_in m < token_in m'
      → key_in text m ≡ Some k → key_in text m' ≡ Some k' → same k k' ≡ true → same k' k ≡ true → ⊥
  unfolding Stands
  once_from before [] e m m' k k' s s' l h h' a b = absurd s
  once_from before (x ∷ marks) e m m' k k' (inl s) (inl s') l h h' a b = let t = ap token_in s in let t' = ap token_in s' in absurd (omega (arith, l, t, t'))
  once_from before (x ∷ marks) e m m' k k' (inl s) (inr s') l h h' a b =
      later (x ∷ before) marks (both_none (flaws_by text fits (x ∷ before) x (is_again text before x)) (flaws_of text fits (x ∷ before) marks) e).1 m' k' s' h' (bound_here x before k' k (ap (key_in text) (sym s) ∙ h) a)
  once_from before (x ∷ marks) e m m' k k' (inr s) (inl s') l h h' a b =
      later (x ∷ before) marks (both_none (flaws_by text fits (x ∷ before) x (is_again text before x)) (flaws_of text fits (x ∷ before) marks) e).1 m k s h (bound_here x before k k' (ap (key_in text) (sym s') ∙ h') b)
  once_from before (x ∷ marks) e m m' k k' (inr s) (inr s') l h h' a b =
      once_from (x ∷ before) marks (both_none (flaws_by text fits (x ∷ before) x (is_again text before x)) (flaws_of text fits (x ∷ before) marks) e).1 m m' k k' s s' l h h' a b

  module _ (all : List Mark) (clean : flaws_of text fits [] all ≡ []) where
    pub once : (m m' : Mark) (k k' : Key) → Stands m all → Stands m' all → token_in m < token_in m' → key_in text m ≡ Some k → key_in text m' ≡ Some k' → same k k' ≡ true → same k' k ≡ true → ⊥
    once m m' k k' s s' l h h' a b = once_from [] all clean m m' k k' s s' l h h' a b

    pub no_real : (n : ℕ) → Stands (Mk.Real n) all → ⊥
    no_real n s =
        let j = judged [] all clean (Mk.Real n) s in
        let none = (none_by j.known (Mk.Real n) j.again j.none).2 in
        false≢true (sym (if_none true n _ none))

    pub may_bind : (sp : Space) (g t : ℕ) → Stands (Mk.Bound (record { space = sp; group = g; token = t })) all → ((names_value sp && is_reserved (text t)) || (names_constructor sp && is_it (text t))) ≡ false
    may_bind sp g t s =
        let j = judged [] all clean (Mk.Bound (record { space = sp; group = g; token = t })) s in
        if_none ((names_value sp && is_reserved (text t)) || (names_constructor sp && is_it (text t))) t _ (none_by j.known (Mk.Bound (record { space = sp; group = g; token = t })) j.again j.none).1

    -- an identifier that its sequence doesn't use, and one that stands for itself in a row, after `rec`

    pub may_stand : (n i t : ℕ) → Stands (Mk.Identifier (record { sequence = n; index = i; token = t; binds = true })) all → is_used fits (position n i) ≡ false → is_reserved (text t) ≡ false
    may_stand n i t s u =
        let m = Mk.Identifier (record { sequence = n; index = i; token = t; binds = true }) in
        let j = judged [] all clean m s in
        if_none (is_reserved (text t)) t _ (sym (ap (λ b. if not b then barred_value text (Some t) else None) u) ∙ (none_by j.known m j.again j.none).1)

    pub may_stand_for_itself : (t : ℕ) → Stands (Mk.Pun t) all → is_reserved (text t) ≡ false
    may_stand_for_itself t s =
        let j = judged [] all clean (Mk.Pun t) s in
        if_none (is_reserved (text t)) t _ (none_by j.known (Mk.Pun t) j.again j.none).1
