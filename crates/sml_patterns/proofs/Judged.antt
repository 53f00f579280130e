-- The warnings that the search gives are those of the definition.
use Rattle.std.specs.List.{Contains, AllByRecursion}
use Rattle.std.specs.List.Sorted.{IsStrictlySortedBy}
use Rattle.std.specs.declared.cmp.Ordering.{Ordering}
use Rattle.std.specs.declared.cmp.Ordering.TheVariants.{Less}
use Rattle.std.proofs.Common.{◌≡◌, ◌↔◌, ℕ, zero, suc, ◌<◌, length, get_or, arith, List, [], ◌∷◌, ◌++◌, ◌⊎◌, inl, inr, Bool, true, false, cond, append_assoc, map, refl, ap, sym, subst, ◌∙◌}
use Rattle.sml_lex.specs.declared.fault.Code.TheVariants.{P1, P2, P3}
use Rattle.sml_lex.specs.declared.fault.Warning.{Warning}
use Rattle.sml_patterns.specs.declared.judge.Holder.{Holder}
use Rattle.sml_patterns.specs.declared.judge.Holder.TheVariants.{Fn, Handle, Val}
use Rattle.sml_narrowing.specs.Plain.{Plain, Wild}
use Rattle.sml_patterns.specs.Shape.{Shape, Matches, World, Column, column, part, IsShape, Fits}
use Rattle.sml_patterns.specs.CodeMatrix.{singles}
use Rattle.sml_patterns.specs.Warnings.{Rule, AllFit, Escapes, warning, IsRedundant, IsOpen, IsOpenAt, IsWarning}
use Rattle.sml_patterns.specs.CodeTasks.{is_apart, near, is_free, plains, redundant_from, open_at}
use Rattle.sml_patterns.proofs.Vectors.{Shapes, End, Then, MatchEach, AreShapes, EscapesAll, wild_fits}
use Rattle.sml_patterns.proofs.Splitting.{FitRows}
use Rattle.sml_patterns.proofs.Exact.{useful_sound, useful_complete}
use Rattle.sml_patterns.proofs.Sharing.{none_shared}

abbrev pub Among : {X : Type 0} → X → List X → Type 0
Among x [] = ⊥
Among x (y ∷ ys) = (x ≡ y) ⊎ Among x ys

-- the patterns near one fit as all do
near_fit : (w : World) (c : Column) (p : Plain) (rs : List Rule) → AllFit w c rs → FitRows w (c ∷ []) (singles (near p (plains rs)))
near_fit w c p [] h = tt
near_fit w c p (r ∷ rs) h = kept_fit (is_apart p r.plain) (near_fit w c p rs h.1) where
  kept_fit : (b : Bool) → FitRows w (c ∷ []) (singles (near p (plains rs))) → FitRows w (c ∷ []) (singles (cond b (near p (plains rs)) (r.plain ∷ near p (plains rs))))
  kept_fit true k = k
  kept_fit false k = ((h.0, tt), k)

-- what escapes all escapes those near a pattern
escape_near : (p : Plain) (rs : List Rule) (s : Shape) → Escapes rs s → EscapesAll (singles (near p (plains rs))) (Then s End)
escape_near p [] s h = tt
escape_near p (r ∷ rs) s h = kept_escape (is_apart p r.plain) (escape_near p rs s h.1) where
  kept_escape : (b : Bool) → EscapesAll (singles (near p (plains rs))) (Then s End) → EscapesAll (singles (cond b (near p (plains rs)) (r.plain ∷ near p (plains rs)))) (Then s End)
  kept_escape true k = k
  kept_escape false k = (λ m. h.0 m.0, k)

-- and what it matches and escapes those near it escapes all
near_escape : (p : Plain) (rs : List Rule) (s : Shape) → Matches p s → EscapesAll (singles (near p (plains rs))) (Then s End) → Escapes rs s
near_escape p [] s m h = tt
near_escape p (r ∷ rs) s m h = all_escape (is_apart p r.plain) refl h (λ k. near_escape p rs s m k) where
  all_escape : (b : Bool) → is_apart p r.plain ≡ b → EscapesAll (singles (cond b (near p (plains rs)) (r.plain ∷ near p (plains rs)))) (Then s End) → (EscapesAll (singles (near p (plains rs))) (Then s End) → Escapes rs s) → Escapes (r ∷ rs) s
  all_escape true e k on = (λ n. none_shared p r.plain s e m n, on k)
  all_escape false e k on = (λ n. k.0 (n, tt), on k.1)

fit_append : (w : World) (c : Column) (xs ys : List Rule) → AllFit w c xs → AllFit w c ys → AllFit w c (xs ++ ys)
fit_append w c [] ys h k = k
fit_append w c (x ∷ xs) ys h k = (h.0, fit_append w c xs ys h.1 k)

among_append : (x : Warning) (ys zs : List Warning) → Among x (ys ++ zs) → Among x ys ⊎ Among x zs
among_append x [] zs h = inr h
among_append x (y ∷ ys) zs (inl h) = inl (inl h)
among_append x (y ∷ ys) zs (inr h) = elim (among_append x ys zs h) [ inl k ↦ inl (inr k) | inr k ↦ inr k ]

among_left : (x : Warning) (ys zs : List Warning) → Among x ys → Among x (ys ++ zs)
among_left x [] zs h = absurd h
among_left x (y ∷ ys) zs (inl h) = inl h
among_left x (y ∷ ys) zs (inr h) = inr (among_left x ys zs h)

among_right : (x : Warning) (ys zs : List Warning) → Among x zs → Among x (ys ++ zs)
among_right x [] zs h = h
among_right x (y ∷ ys) zs h = inr (among_right x ys zs h)

among_cond : (x y : Warning) (b : Bool) → Among x (cond b (y ∷ []) []) → (x ≡ y) × (b ≡ true)
among_cond x y true (inl h) = (h, refl)
among_cond x y true (inr h) = absurd h
among_cond x y false h = absurd h

cond_among : (x y : Warning) (b : Bool) → x ≡ y → b ≡ true → Among x (cond b (y ∷ []) [])
cond_among x y true h k = inl h
cond_among x y false h k = absurd (cc)

among_unless : (x y : Warning) (b : Bool) → Among x (cond b [] (y ∷ [])) → (x ≡ y) × (b ≡ false)
among_unless x y true h = absurd h
among_unless x y false (inl h) = (h, refl)
among_unless x y false (inr h) = absurd h

unless_among : (x y : Warning) (b : Bool) → x ≡ y → (b ≡ true → ⊥) → Among x (cond b [] (y ∷ []))
unless_among x y true h k = absurd (k refl)
unless_among x y false h k = inl h

true_false : true ≡ false → ⊥
true_false h = cc

append_nil : (xs : List Rule) → xs ++ [] ≡ xs
append_nil [] = refl
append_nil (x ∷ xs) = ap (λ l. x ∷ l) (append_nil xs)

module _ (w : World) (c : Column) where
  useful_one : (above : List Rule) (p : Plain) (v : Shapes) → AreShapes w (c ∷ []) v → MatchEach (p ∷ []) v → EscapesAll (singles (near p (plains above))) v → (s : Shape) × IsShape w (part w c) s × Matches p s × Escapes above s
  useful_one above p End i m n = absurd i
  useful_one above p (Then s End) i m n = (s, i.0, m.0, near_escape p above s m.0 n)
  useful_one above p (Then s (Then t v)) i m n = absurd i.1

  -- what the search says of one pattern
  found : (above : List Rule) (p : Plain) → AllFit w c above → Fits w c.depth c.type p → is_free (plains above) p ≡ true → (s : Shape) × IsShape w (part w c) s × Matches p s × Escapes above s
  found above p h k t =
      let u = useful_sound w (c ∷ []) (singles (near p (plains above))) (p ∷ []) (near_fit w c p above h) (k, tt) t in
      useful_one above p u.0 u.1 u.2 u.3

  finds : (above : List Rule) (p : Plain) → AllFit w c above → Fits w c.depth c.type p → (s : Shape) → IsShape w (part w c) s → Matches p s → Escapes above s → is_free (plains above) p ≡ true
  finds above p h k s i m n =
      useful_complete w (c ∷ []) (singles (near p (plains above))) (p ∷ []) (near_fit w c p above h) (k, tt) (Then s End, (i, tt), (m, tt), escape_near p above s n)

  abbrev pub IsRedundantRule : List Rule → List Rule → Warning → Type 0
  IsRedundantRule first rules x =
      (above : List Rule) × (r : Rule) × (below : List Rule) × (rules ≡ above ++ r ∷ below) × (x ≡ warning r.place P1) × IsRedundant w c (first ++ above) r

  redundant_to : (first rules : List Rule) → AllFit w c first → AllFit w c rules → (x : Warning) → Among x (redundant_from first rules) → IsRedundantRule first rules x
  redundant_to first [] h k x i = absurd i
  redundant_to first (r ∷ rs) h k x i =
      elim (among_append x (cond (is_free (plains first) r.plain) [] (warning r.place P1 ∷ [])) (redundant_from (first ++ r ∷ []) rs) i) [
        | inl y ↦ redundant_here y
        | inr y ↦ redundant_later (redundant_to (first ++ r ∷ []) rs (fit_append w c first (r ∷ []) h (k.0, tt)) k.1 x y)
      ]
    where
      redundant_here : Among x (cond (is_free (plains first) r.plain) [] (warning r.place P1 ∷ [])) → IsRedundantRule first (r ∷ rs) x
      redundant_here y =
          let z = among_unless x (warning r.place P1) (is_free (plains first) r.plain) y in
          ([], r, rs, refl, z.0, λ s t m n. true_false (sym (finds first r.plain h k.0 s t m (subst (λ l. Escapes l s) (append_nil first) n)) ∙ z.1))

      redundant_later : IsRedundantRule (first ++ r ∷ []) rs x → IsRedundantRule first (r ∷ rs) x
      redundant_later z =
          (r ∷ z.0, z.1, z.2, ap (λ l. r ∷ l) z.3, z.4, subst (λ l. IsRedundant w c l z.1) (append_assoc first (r ∷ []) z.0) z.5)

  redundant_fro : (above first : List Rule) (r : Rule) (below : List Rule) → AllFit w c first → AllFit w c (above ++ r ∷ below) → (x : Warning) → x ≡ warning r.place P1 → IsRedundant w c (first ++ above) r → Among x (redundant_from first (above ++ r ∷ below))
  redundant_fro [] first r below h k x i j =
      among_left x (cond (is_free (plains first) r.plain) [] (warning r.place P1 ∷ [])) (redundant_from (first ++ r ∷ []) below)
      (unless_among x (warning r.place P1) (is_free (plains first) r.plain) i
      (λ t. let f = found first r.plain h k.0 t in j f.0 f.1 f.2 (subst (λ l. Escapes l f.0) (sym (append_nil first)) f.3)))
  redundant_fro (q ∷ above) first r below h k x i j =
      among_right x (cond (is_free (plains first) q.plain) [] (warning q.place P1 ∷ [])) (redundant_from (first ++ q ∷ []) (above ++ r ∷ below))
      (redundant_fro above (first ++ q ∷ []) r below (fit_append w c first (q ∷ []) h (k.0, tt)) k.1 x i (subst (λ l. IsRedundant w c l r) (sym (append_assoc first (q ∷ []) above)) j))

  open_of : (rules : List Rule) → AllFit w c rules → is_free (plains rules) Wild ≡ true → IsOpen w c rules
  open_of rules h t =
      let f = found rules Wild h (wild_fits w c.depth c.type) t in (f.0, f.1, f.3)

  of_open : (rules : List Rule) → AllFit w c rules → IsOpen w c rules → is_free (plains rules) Wild ≡ true
  of_open rules h o =
      finds rules Wild h (wild_fits w c.depth c.type) o.0 o.1 tt o.2

  open_to : (rules : List Rule) → AllFit w c rules → (h : Holder) (x : Warning) → Among x (open_at rules h) → IsOpenAt w c rules h x
  open_to rules f (Fn p) x i =
      let z = among_cond x (warning p P2) (is_free (plains rules) Wild) i in (z.0, open_of rules f z.1)
  open_to rules f (Handle p) x i = absurd i
  open_to rules f (Val p) x i =
      let z = among_cond x (warning p P3) (is_free (plains rules) Wild) i in (z.0, open_of rules f z.1)

  open_fro : (rules : List Rule) → AllFit w c rules → (h : Holder) (x : Warning) → IsOpenAt w c rules h x → Among x (open_at rules h)
  open_fro rules f (Fn p) x i = cond_among x (warning p P2) (is_free (plains rules) Wild) i.0 (of_open rules f i.1)
  open_fro rules f (Handle p) x i = absurd i
  open_fro rules f (Val p) x i = cond_among x (warning p P3) (is_free (plains rules) Wild) i.0 (of_open rules f i.1)

  pub judged_to : (h : Holder) (rules : List Rule) → AllFit w c rules → (x : Warning) → Among x (open_at rules h ++ redundant_from [] rules) → IsWarning w c h rules x
  judged_to h rules f x i =
      elim (among_append x (open_at rules h) (redundant_from [] rules) i) [
        | inl y ↦ inr (open_to rules f h x y)
        | inr y ↦ inl (redundant_to [] rules tt f x y)
      ]

  fro_at : (h : Holder) (rules above : List Rule) (r : Rule) (below : List Rule) → rules ≡ above ++ r ∷ below → AllFit w c rules → (x : Warning) → x ≡ warning r.place P1 → IsRedundant w c above r → Among x (redundant_from [] rules)
  fro_at h rules above r below i f x j k =
      subst (λ l. Among x (redundant_from [] l)) (sym i) (redundant_fro above [] r below tt (subst (AllFit w c) i f) x j k)

  pub judged_fro : (h : Holder) (rules : List Rule) → AllFit w c rules → (x : Warning) → IsWarning w c h rules x → Among x (open_at rules h ++ redundant_from [] rules)
  judged_fro h rules f x (inl y) =
      among_right x (open_at rules h) (redundant_from [] rules) (fro_at h rules y.0 y.1 y.2 y.3 f x y.4 y.5)
  judged_fro h rules f x (inr y) =
      among_left x (open_at rules h) (redundant_from [] rules) (open_fro rules f h x y)

among_contains : {X : Type 0} (x : X) (xs : List X) → Among x xs → Contains xs x
among_contains x [] h = absurd h
among_contains x (y ∷ ys) (inl h) = (0, omega arith, sym h)
among_contains x (y ∷ ys) (inr h) =
    let r = among_contains x ys h in (suc r.0, omega (arith, r.1), r.2)

contains_among : {X : Type 0} (x : X) (xs : List X) → (k : ℕ) → k < length xs → get_or xs k x ≡ x → Among x xs
contains_among x [] k h i = absurd (omega arith)
contains_among x (y ∷ ys) zero h i = inl (sym i)
contains_among x (y ∷ ys) (suc k) h i = inr (contains_among x ys k (omega arith) i)

map_among : {X Y : Type 0} (f : X → Y) (x : X) (xs : List X) → Among x xs → Among (f x) (map f xs)
map_among f x [] h = h
map_among f x (y ∷ ys) (inl h) = inl (ap f h)
map_among f x (y ∷ ys) (inr h) = inr (map_among f x ys h)

among_map : {X Y : Type 0} (f : X → Y) (y : Y) (xs : List X) → Among y (map f xs) → (x : X) × Among x xs × (y ≡ f x)
among_map f y [] h = absurd h
among_map f y (x ∷ xs) (inl h) = (x, inl refl, h)
among_map f y (x ∷ xs) (inr h) = let r = among_map f y xs h in (r.0, inr r.1, r.2)

-- what one list has of another one, its image has of that one's
pub map_contains : {X Y : Type 0} (f : X → Y) (xs ys : List X) → ((x : X) → Contains xs x → Contains ys x) → (y : Y) → Contains (map f xs) y → Contains (map f ys) y
map_contains f xs ys g y h =
    let r = among_map f y xs (contains_among y (map f xs) h.0 h.1 h.2) in
    let i = g r.0 (among_contains r.0 xs r.1) in
    among_contains y (map f ys) (subst (λ z. Among z (map f ys)) (sym r.2) (map_among f r.0 ys (contains_among r.0 ys i.0 i.1 i.2)))

-- the list holds the warnings of the definition and no others
pub judged : (h : Holder) (rules : List Rule) (raw final : List Warning) → raw ≡ open_at rules h ++ redundant_from [] rules → ((x : Warning) → Contains raw x → Contains final x) → ((x : Warning) → Contains final x → Contains raw x) → (w : World) (d t : ℕ) → AllFit w (column d t) rules → (x : Warning) → Contains final x ↔ IsWarning w (column d t) h rules x
judged h rules raw final i keeps adds w d t f x =
    (λ y. let z = adds x y in judged_to w (column d t) h rules f x (subst (Among x) i (contains_among x raw z.0 z.1 z.2)), λ y. keeps x (among_contains x raw (subst (Among x) (sym i) (judged_fro w (column d t) h rules f x y))))

-- the same of what is found, sorted, and given as warnings
pub judged_by : {X : Type 0} (f : X → Warning) (h : Holder) (rules own : List Rule) (raw sorted : List X) (final : List Warning) → map f raw ≡ open_at rules h ++ redundant_from [] rules → ((x : X) → Contains raw x → Contains sorted x) → ((x : X) → Contains sorted x → Contains raw x) → final ≡ map f sorted → rules ≡ own → (w : World) (d t : ℕ) → AllFit w (column d t) own → (x : Warning) → Contains final x ↔ IsWarning w (column d t) h own x
judged_by f h rules own raw sorted final i keeps adds e g w d t k x =
    subst (λ rs. Contains final x ↔ IsWarning w (column d t) h rs x) g
    (judged h rules (map f raw) final i (λ y c. subst (λ ys. Contains ys y) (sym e) (map_contains f raw sorted keeps y c)) (λ y c. map_contains f sorted raw adds y (subst (λ ys. Contains ys y) e c)) w d t (subst (AllFit w (column d t)) (sym g) k) x)

-- what rises by one order rises by another one that is the same
all_map : {X Y : Type 0} (f : X → Y) (C : Y → Y → Ordering) (D : X → X → Ordering) → ((a b : X) → D a b ≡ C (f a) (f b)) → (x : X) (xs : List X) → AllByRecursion (λ y. D x y ≡ Less) xs → AllByRecursion (λ y. C (f x) y ≡ Less) (map f xs)
all_map f C D e x [] h = tt
all_map f C D e x (y ∷ ys) h = (sym (e x y) ∙ h.0, all_map f C D e x ys h.1)

pub map_rises : {X Y : Type 0} (f : X → Y) (C : Y → Y → Ordering) (D : X → X → Ordering) → ((a b : X) → D a b ≡ C (f a) (f b)) → (xs : List X) → IsStrictlySortedBy D xs → IsStrictlySortedBy C (map f xs)
unfolding IsStrictlySortedBy
map_rises f C D e [] h = tt
map_rises f C D e (x ∷ xs) h = (all_map f C D e x xs h.0, map_rises f C D e xs h.1)
