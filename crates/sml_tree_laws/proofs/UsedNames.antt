-- Which atomic phrases the steps of a tree take as operators or apply: those that it keeps are none of these.
use Rattle.std.proofs.Common.{◌≡◌, ℕ, ◌+◌, ◌<◌, ◌≤◌, List, [], ◌∷◌, ◌++◌, Bool, true, false, Option, Some, None, drop, refl, sym, ap, ◌∙◌, subst, inl, inr, ◌⊎◌, append_assoc, arith}
use Rattle.std.specs.Prelude.{slice_get, ◌&&◌, ◌==◌, if◌then◌else◌}
use Rattle.std.proofs.lemmas.Bool.{false≢true, eqb-true}
use Rattle.std.proofs.lemmas.List.{append-nil}
use Rattle.sml_tree.specs.Views.{ident_of}
use Rattle.sml_fixity.specs.declared.scopes.Fixity.{Fixity}
use Rattle.sml_fixity.specs.declared.sequences.Item.{Item}
use Rattle.sml_fixity.specs.declared.sequences.Item.TheVariants.{Short, Op, Long, Phrase}
use Rattle.sml_fixity.specs.declared.sequences.Step.{Step}
use Rattle.sml_fixity.specs.declared.sequences.Step.TheVariants.{Push, Apply, Combine}
use Rattle.sml_fixity.specs.Scopes.{Map}
use Rattle.sml_fixity.specs.Sequences.{operator_of, role_by, roles_from, roles_of}
use Rattle.sml_fixity.specs.Infix.{Tree, Single, Applied, Joined, yield, postfix, EachOperator, Obeys}
use Rattle.sml_flaws.specs.Known.{use_of, is_at, is_used_in}

-- the indices of a tree's leaves and operators, from lo on and before hi, go up

abbrev pub Spans : ℕ → Tree → ℕ → Type 0
Spans lo (Single a) hi = (a ≡ lo) × (hi ≡ lo + 1)
Spans lo (Applied f x) hi = (mid : ℕ) × Spans lo f mid × Spans mid x hi
Spans lo (Joined o l r) hi = (mid : ℕ) × Spans lo l mid × (o.index ≡ mid) × Spans (mid + 1) r hi

spans_some : (t : Tree) (lo hi : ℕ) → Spans lo t hi → lo < hi
spans_some (Single a) lo hi h = let e = h.1 in omega (arith, e)
spans_some (Applied f x) lo hi h = let a = spans_some f lo h.0 h.1 in let b = spans_some x h.0 hi h.2 in omega (arith, a, b)
spans_some (Joined o l r) lo hi h = let a = spans_some l lo h.0 h.1 in let b = spans_some r (h.0 + 1) hi h.3 in omega (arith, a, b)

atom_index : (m : Map) (x : Item) (xs : List Item) (a lo : ℕ) (more : _) → yield (Single a) ++ more ≡ roles_from m lo (x ∷ xs) → a ≡ lo
atom_index m (Short y) xs a lo more e = go (m (ident_of y)) e
  where
    go : (o : Option Fixity) → yield (Single a) ++ more ≡ role_by lo o ∷ roles_from m (lo + 1) xs → a ≡ lo
    go None e = cc
    go (Some fixity) e = cc
atom_index m Op xs a lo more e = cc
atom_index m Long xs a lo more e = cc
atom_index m Phrase xs a lo more e = cc

-- what a tree is written as, from its operator on
operator_index : (o : _) (r : Tree) (m : Map) (x : Item) (xs : List Item) (lo : ℕ) (more : _) → drop 1 (yield (Joined o (Single 0) r)) ++ more ≡ roles_from m lo (x ∷ xs) → o.index ≡ lo
operator_index o r m (Short y) xs lo more e = go (m (ident_of y)) e
  where
    go : (f : Option Fixity) → drop 1 (yield (Joined o (Single 0) r)) ++ more ≡ role_by lo f ∷ roles_from m (lo + 1) xs → o.index ≡ lo
    go None e = cc
    go (Some fixity) e = let same : o ≡ operator_of lo fixity = cc in ap (λ p. p.index) same
operator_index o r m Op xs lo more e = cc
operator_index o r m Long xs lo more e = cc
operator_index o r m Phrase xs lo more e = cc

others : {A : Type 0} {x y : A} {xs ys : List A} → x ∷ xs ≡ y ∷ ys → xs ≡ ys
others e = cc

pub spans : (t : Tree) (m : Map) (lo : ℕ) (items : List Item) (more : _) → yield t ++ more ≡ roles_from m lo items → (hi : ℕ) × (rest : List Item) × Spans lo t hi × (more ≡ roles_from m hi rest)
spans (Single a) m lo [] more e = cc
spans (Single a) m lo (x ∷ xs) more e = (lo + 1, xs, (atom_index m x xs a lo more e, refl), others e)
spans (Applied f x) m lo items more e =
    let a = spans f m lo items (yield x ++ more) (sym (append_assoc (yield f) (yield x) more) ∙ e) in
    let b = spans x m a.0 a.1 more a.3 in
    (b.0, b.1, (a.0, a.2, b.2), b.3)
spans (Joined o l r) m lo items more e =
    let a = spans l m lo items (drop 1 (yield (Joined o (Single 0) r)) ++ more) (sym (append_assoc (yield l) (drop 1 (yield (Joined o (Single 0) r))) more) ∙ e) in
    after (λ lo xs k. spans r m lo xs more k) a.0 a.1 a.2 a.3
  where
    after : ((lo : ℕ) (xs : List Item) → yield r ++ more ≡ roles_from m lo xs → (hi : ℕ) × (rest : List Item) × Spans lo r hi × (more ≡ roles_from m hi rest)) → (mid : ℕ) (rest : List Item) → Spans lo l mid
        → drop 1 (yield (Joined o (Single 0) r)) ++ more ≡ roles_from m mid rest → (hi : ℕ) × (rest : List Item) × Spans lo (Joined o l r) hi × (more ≡ roles_from m hi rest)
    after again mid [] h e = cc
    after again mid (x ∷ xs) h e = let b = again (mid + 1) xs (others e) in (b.0, b.1, (mid, h, operator_index o r m x xs mid more e, b.2), b.3)

-- the leaves that a tree keeps, and the leaves and operators that it takes; at the head of an application its leaf is taken

abbrev pub Kept : Bool → ℕ → Tree → Type 0
Kept false i (Single a) = i ≡ a
Kept true i (Single a) = ⊥
Kept head i (Applied f x) = Kept true i f ⊎ Kept false i x
Kept head i (Joined o l r) = Kept false i l ⊎ Kept false i r

abbrev Taken : Bool → ℕ → Tree → Type 0
Taken false i (Single a) = ⊥
Taken true i (Single a) = a ≡ i
Taken head i (Applied f x) = Taken true i f ⊎ Taken false i x
Taken head i (Joined o l r) = Taken false i l ⊎ (o.index ≡ i) ⊎ Taken false i r

abbrev Within : ℕ → ℕ → ℕ → Type 0
Within lo i hi = (lo ≤ i) × (i < hi)

kept_within : (t : Tree) (head : Bool) (i lo hi : ℕ) → Spans lo t hi → Kept head i t → Within lo i hi
kept_within (Single a) false i lo hi h k = let s = h.0 in let e = h.1 in (omega (arith, s, k), omega (arith, s, e, k))
kept_within (Single a) true i lo hi h k = absurd k
kept_within (Applied f x) head i lo hi h (inl k) =
    let w = kept_within f true i lo h.0 h.1 k in let a = w.0 in let b = w.1 in let c = spans_some x h.0 hi h.2 in (a, omega (arith, b, c))
kept_within (Applied f x) head i lo hi h (inr k) =
    let w = kept_within x false i h.0 hi h.2 k in let a = w.0 in let b = w.1 in let c = spans_some f lo h.0 h.1 in (omega (arith, a, c), b)
kept_within (Joined o l r) head i lo hi h (inl k) =
    let w = kept_within l false i lo h.0 h.1 k in let a = w.0 in let b = w.1 in let c = spans_some r (h.0 + 1) hi h.3 in (a, omega (arith, b, c))
kept_within (Joined o l r) head i lo hi h (inr k) =
    let w = kept_within r false i (h.0 + 1) hi h.3 k in let a = w.0 in let b = w.1 in let c = spans_some l lo h.0 h.1 in (omega (arith, a, c), b)

taken_within : (t : Tree) (head : Bool) (i lo hi : ℕ) → Spans lo t hi → Taken head i t → Within lo i hi
taken_within (Single a) false i lo hi h k = absurd k
taken_within (Single a) true i lo hi h k = let s = h.0 in let e = h.1 in (omega (arith, s, k), omega (arith, s, e, k))
taken_within (Applied f x) head i lo hi h (inl k) =
    let w = taken_within f true i lo h.0 h.1 k in let a = w.0 in let b = w.1 in let c = spans_some x h.0 hi h.2 in (a, omega (arith, b, c))
taken_within (Applied f x) head i lo hi h (inr k) =
    let w = taken_within x false i h.0 hi h.2 k in let a = w.0 in let b = w.1 in let c = spans_some f lo h.0 h.1 in (omega (arith, a, c), b)
taken_within (Joined o l r) head i lo hi h (inl k) =
    let w = taken_within l false i lo h.0 h.1 k in let a = w.0 in let b = w.1 in let c = spans_some r (h.0 + 1) hi h.3 in (a, omega (arith, b, c))
taken_within (Joined o l r) head i lo hi h (inr (inl k)) =
    let s = h.2 in let b = spans_some l lo h.0 h.1 in let c = spans_some r (h.0 + 1) hi h.3 in (omega (arith, s, k, b), omega (arith, s, k, c))
taken_within (Joined o l r) head i lo hi h (inr (inr k)) =
    let w = taken_within r false i (h.0 + 1) hi h.3 k in let a = w.0 in let b = w.1 in let c = spans_some l lo h.0 h.1 in (omega (arith, a, c), b)

-- none is both
kept_free : (t : Tree) (head : Bool) (i lo hi : ℕ) → Spans lo t hi → Kept head i t → Taken head i t → ⊥
kept_free (Single a) false i lo hi h k u = absurd u
kept_free (Single a) true i lo hi h k u = absurd k
kept_free (Applied f x) head i lo hi h (inl k) (inl u) = kept_free f true i lo h.0 h.1 k u
kept_free (Applied f x) head i lo hi h (inl k) (inr u) =
    let a = (kept_within f true i lo h.0 h.1 k).1 in let b = (taken_within x false i h.0 hi h.2 u).0 in omega (arith, a, b)
kept_free (Applied f x) head i lo hi h (inr k) (inl u) =
    let a = (kept_within x false i h.0 hi h.2 k).0 in let b = (taken_within f true i lo h.0 h.1 u).1 in omega (arith, a, b)
kept_free (Applied f x) head i lo hi h (inr k) (inr u) = kept_free x false i h.0 hi h.2 k u
kept_free (Joined o l r) head i lo hi h (inl k) (inl u) = kept_free l false i lo h.0 h.1 k u
kept_free (Joined o l r) head i lo hi h (inl k) (inr (inl u)) = let a = (kept_within l false i lo h.0 h.1 k).1 in let s = h.2 in omega (arith, a, s, u)
kept_free (Joined o l r) head i lo hi h (inl k) (inr (inr u)) =
    let a = (kept_within l false i lo h.0 h.1 k).1 in let b = (taken_within r false i (h.0 + 1) hi h.3 u).0 in omega (arith, a, b)
kept_free (Joined o l r) head i lo hi h (inr k) (inl u) =
    let a = (kept_within r false i (h.0 + 1) hi h.3 k).0 in let b = (taken_within l false i lo h.0 h.1 u).1 in omega (arith, a, b)
kept_free (Joined o l r) head i lo hi h (inr k) (inr (inl u)) = let a = (kept_within r false i (h.0 + 1) hi h.3 k).0 in let s = h.2 in omega (arith, a, s, u)
kept_free (Joined o l r) head i lo hi h (inr k) (inr (inr u)) = kept_free r false i (h.0 + 1) hi h.3 k u

-- steps

pub two_parts : (l r : List Step) (s : Step) (rest : List Step) → ((l ++ r) ++ s ∷ []) ++ rest ≡ l ++ (r ++ s ∷ rest)
two_parts l r s rest = append_assoc (l ++ r) (s ∷ []) rest ∙ append_assoc l r (s ∷ rest)

abbrev is_apply : Option Step → Bool
is_apply (Some Apply) = true
is_apply _ = false

first_push : (t : Tree) (rest : List Step) → is_apply (slice_get (postfix t ++ rest) 0) ≡ false
first_push (Single a) rest = refl
first_push (Applied f x) rest = subst (λ q. is_apply (slice_get q 0) ≡ false) (sym (two_parts (postfix f) (postfix x) Apply rest)) (first_push f (postfix x ++ Apply ∷ rest))
first_push (Joined o l r) rest =
    subst (λ q. is_apply (slice_get q 0) ≡ false) (sym (two_parts (postfix l) (postfix r) (Combine o.index) rest)) (first_push l (postfix r ++ Combine o.index ∷ rest))

second_push : (t : Tree) (rest : List Step) → is_apply (slice_get rest 0) ≡ false → is_apply (slice_get (postfix t ++ rest) 1) ≡ false
second_push (Single a) rest h = h
second_push (Applied f x) rest h =
    subst (λ q. is_apply (slice_get q 1) ≡ false) (sym (two_parts (postfix f) (postfix x) Apply rest)) (second_push f (postfix x ++ Apply ∷ rest) (first_push x (Apply ∷ rest)))
second_push (Joined o l r) rest h =
    subst (λ q. is_apply (slice_get q 1) ≡ false) (sym (two_parts (postfix l) (postfix r) (Combine o.index) rest))
    (second_push l (postfix r ++ Combine o.index ∷ rest) (first_push r (Combine o.index ∷ rest)))

-- neither the next step nor the one after it applies
abbrev Calm : List Step → Type 0
Calm rest = (is_apply (slice_get rest 0) ≡ false) × (is_apply (slice_get rest 1) ≡ false)

module _ (n i : ℕ) where
  abbrev U : List Step → Bool
  U steps = is_used_in n steps (record { sequence = n; index = i })

  other_index : (a : ℕ) (b c : Bool) → (a ≡ i → ⊥) → (if b && (a == i) then true else c) ≡ c
  other_index a b c h = go (a == i) refl b
    where
      go : (d : Bool) → (a == i) ≡ d → (b : Bool) → (if b && d then true else c) ≡ c
      go true e b = absurd (h (eqb-true a i e))
      go false e true = refl
      go false e false = refl

  push_kept : (a : ℕ) (rest : List Step) → is_apply (slice_get rest 1) ≡ false → U (Push a ∷ rest) ≡ U rest
  push_kept a rest h = go (slice_get rest 1) h
    where
      go : (o : Option Step) → is_apply o ≡ false → (if is_at (use_of (Push a) o) n (record { sequence = n; index = i }) then true else U rest) ≡ U rest
      go None h = refl
      go (Some (Push b)) h = refl
      go (Some Apply) h = absurd (false≢true (sym h))
      go (Some (Combine b)) h = refl

  push_other : (a : ℕ) (rest : List Step) → (a ≡ i → ⊥) → U (Push a ∷ rest) ≡ U rest
  push_other a rest h = go (slice_get rest 1)
    where
      go : (o : Option Step) → (if is_at (use_of (Push a) o) n (record { sequence = n; index = i }) then true else U rest) ≡ U rest
      go None = refl
      go (Some (Push b)) = refl
      go (Some Apply) = other_index a (n == n) (U rest) h
      go (Some (Combine b)) = refl

  apply_kept : (rest : List Step) → U (Apply ∷ rest) ≡ U rest
  apply_kept rest = refl

  combine_other : (a : ℕ) (rest : List Step) → (a ≡ i → ⊥) → U (Combine a ∷ rest) ≡ U rest
  combine_other a rest h = other_index a (n == n) (U rest) h

  head_free : (t : Tree) → Obeys t → EachOperator (λ _. ⊥) t → (Taken true i t → ⊥) → (b : ℕ) (rest : List Step) → U (postfix t ++ Push b ∷ Apply ∷ rest) ≡ U (Push b ∷ Apply ∷ rest)
  head_free (Single a) o e h b rest = push_other a (Push b ∷ Apply ∷ rest) h
  head_free (Applied f (Single c)) o e h b rest =
      ap (λ q. U q) (two_parts (postfix f) (Push c ∷ []) Apply (Push b ∷ Apply ∷ rest))
      ∙ head_free f o.0 e.0 (λ u. h (inl u)) c (Push b ∷ Apply ∷ rest)
      ∙ push_kept c (Apply ∷ Push b ∷ Apply ∷ rest) refl
      ∙ apply_kept (Push b ∷ Apply ∷ rest)
  head_free (Applied f (Applied g y)) o e h b rest = absurd o.2
  head_free (Applied f (Joined p l r)) o e h b rest = absurd o.2
  head_free (Joined p l r) o e h b rest = absurd e.0

  free : (t : Tree) → Obeys t → (Taken false i t → ⊥) → (rest : List Step) → Calm rest → U (postfix t ++ rest) ≡ U rest
  free (Single a) o h rest calm = push_kept a rest calm.1
  free (Applied f (Single b)) o h rest calm =
      ap (λ q. U q) (two_parts (postfix f) (Push b ∷ []) Apply rest)
      ∙ head_free f o.0 o.1 (λ u. h (inl u)) b rest
      ∙ push_kept b (Apply ∷ rest) calm.0
      ∙ apply_kept rest
  free (Applied f (Applied g y)) o h rest calm = absurd o.2
  free (Applied f (Joined p l r)) o h rest calm = absurd o.2
  free (Joined p l r) o h rest calm =
      ap (λ q. U q) (two_parts (postfix l) (postfix r) (Combine p.index) rest)
      ∙ free l o.0 (λ u. h (inl u)) (postfix r ++ Combine p.index ∷ rest) (first_push r (Combine p.index ∷ rest), second_push r (Combine p.index ∷ rest) refl)
      ∙ free r o.1 (λ u. h (inr (inr u))) (Combine p.index ∷ rest) (refl, calm.0)
      ∙ combine_other p.index rest (λ u. h (inr (inl u)))

  -- what the tree of a sequence keeps isn't used
  pub kept_unused : (t : Tree) (m : Map) (items : List Item) → Obeys t → yield t ≡ roles_of m items → Kept false i t → U (postfix t) ≡ false
  kept_unused t m items o e k =
      let s = spans t m 0 items [] (append-nil (yield t) ∙ e) in
      ap (λ q. U q) (sym (append-nil (postfix t))) ∙ free t o (kept_free t false i 0 s.0 s.2 k) [] (refl, refl)
