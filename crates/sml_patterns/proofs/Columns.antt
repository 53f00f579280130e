-- What a column keeps of the patterns noted.
use Rattle.std.proofs.Common.{◌≡◌, ℕ, suc, ◌+◌, ◌<◌, ◌≤◌, length, arith, List, [], ◌∷◌, ◌++◌, Bool, true, false, Option, Some, None, Vec, Global, cond, drop, refl, ap, sym, ◌∙◌}
use Rattle.std.specs.Prelude.{◌&&◌, ◌==◌, if◌then◌else◌}
use Rattle.std.specs.Ordering.{int_eq}
use Rattle.std.specs.Str.{bytes_eq}
use Rattle.std.proofs.lemmas.Bool.{and_parts, eqb-true}
use Rattle.std.proofs.lemmas.Bool.Decides.{Decides-int_eq, Decides-eqb}
use Rattle.std.proofs.lemmas.Slice.Eq.{bytes_eq-Decides}
use Rattle.std.proofs.Math.ListN.{drop_of_length-le}
use Rattle.sml_patterns.specs.declared.keys.Key as P
use Rattle.sml_patterns.specs.CodeColumns.{Key, same, kept, keyless, grouped, key_in, same_key, items_in}

-- those of the groups from this one on, each but the last with the one after it that has no key
abbrev pub gathered : (ℕ → List ℕ) → List ℕ → ℕ → List ℕ
gathered L [] g = L g
gathered L (o ∷ os) g = L g ++ (o ∷ gathered L os (suc g))

self_eq : (g : ℕ) → (g == g) ≡ true
self_eq g = (Decides-eqb g g).1 refl

less_eq : (g j : ℕ) → g < j → (g == j) ≡ false
less_eq g j h = go (g == j) refl
  where
    go : (b : Bool) → (g == j) ≡ b → (g == j) ≡ false
    go true e = absurd (let f = eqb-true g j e in omega (arith, h, f))
    go false e = e

more_eq : (g j : ℕ) → j < g → (g == j) ≡ false
more_eq g j h = go (g == j) refl
  where
    go : (b : Bool) → (g == j) ≡ b → (g == j) ≡ false
    go true e = absurd (let f = eqb-true g j e in omega (arith, h, f))
    go false e = e

-- after fewer stands none
grouped_before : (n g : ℕ) (ks : List (Option Key)) (k : Key) (j : ℕ) → j < g → grouped n g ks k j ≡ []
grouped_before n g [] k j h = refl
grouped_before n g (None ∷ ks) k j h = grouped_before (suc n) (suc g) ks k j (omega (arith, h))
grouped_before n g (Some a ∷ ks) k j h =
    ap (λ b. if b && same a k then n ∷ grouped (suc n) g ks k j else grouped (suc n) g ks k j) (more_eq g j h) ∙ grouped_before (suc n) g ks k j h

gathered_same : (L M : ℕ → List ℕ) (os : List ℕ) (g : ℕ) → ((j : ℕ) → g ≤ j → L j ≡ M j) → gathered L os g ≡ gathered M os g
gathered_same L M [] g e = e g (omega arith)
gathered_same L M (o ∷ os) g e =
    ap (λ is. is ++ (o ∷ gathered L os (suc g))) (e g (omega arith)) ∙ ap (λ is. M g ++ (o ∷ is)) (gathered_same L M os (suc g) (λ j h. e j (omega (arith, h))))

-- one more in the first group
gathered_first : (L M : ℕ → List ℕ) (n : ℕ) (os : List ℕ) (g : ℕ) (b : Bool) → L g ≡ (if b then n ∷ M g else M g) → ((j : ℕ) → g < j → L j ≡ M j)
    → gathered L os g ≡ (if b then n ∷ gathered M os g else gathered M os g)
gathered_first L M n [] g b e f = e
gathered_first L M n (o ∷ os) g b e f =
    ap (λ is. is ++ (o ∷ gathered L os (suc g))) e ∙ ap (λ is. (if b then n ∷ M g else M g) ++ (o ∷ is)) (gathered_same L M os (suc g) (λ j h. f j (omega (arith, h)))) ∙ by_test b
  where
    by_test : (b : Bool) → ((if b then n ∷ M g else M g) ++ (o ∷ gathered M os (suc g))) ≡ (if b then n ∷ (M g ++ (o ∷ gathered M os (suc g))) else M g ++ (o ∷ gathered M os (suc g)))
    by_test true = refl
    by_test false = refl

-- all groups are those with this key or none
pub gathered_kept : (n g : ℕ) (ks : List (Option Key)) (k : Key) → gathered (grouped n g ks k) (keyless n ks) g ≡ kept n ks k
gathered_kept n g [] k = refl
gathered_kept n g (None ∷ ks) k =
    ap (λ is. is ++ (n ∷ gathered (grouped (suc n) (suc g) ks k) (keyless (suc n) ks) (suc g))) (grouped_before (suc n) (suc g) ks k g (omega arith))
    ∙ ap (λ is. n ∷ is) (gathered_kept (suc n) (suc g) ks k)
gathered_kept n g (Some a ∷ ks) k =
    gathered_first (grouped n g (Some a ∷ ks) k) (grouped (suc n) g ks k) n (keyless (suc n) ks) g (same a k)
    (ap (λ b. if b && same a k then n ∷ grouped (suc n) g ks k g else grouped (suc n) g ks k g) (self_eq g))
    (λ j h. ap (λ b. if b && same a k then n ∷ grouped (suc n) g ks k j else grouped (suc n) g ks k j) (less_eq g j h))
    ∙ ap (λ is. if same a k then n ∷ is else is) (gathered_kept (suc n) g ks k)

-- one more without a key
pub keyless_none : (n : ℕ) (ks : List (Option Key)) → keyless n (ks ++ None ∷ []) ≡ keyless n ks ++ (n + length ks) ∷ []
keyless_none n [] = ap (λ m. m ∷ []) (omega arith)
keyless_none n (None ∷ ks) = ap (λ is. n ∷ is) (keyless_none (suc n) ks ∙ ap (λ m. keyless (suc n) ks ++ m ∷ []) (omega arith))
keyless_none n (Some a ∷ ks) = keyless_none (suc n) ks ∙ ap (λ m. keyless (suc n) ks ++ m ∷ []) (omega arith)

pub grouped_none : (n g : ℕ) (ks : List (Option Key)) (k : Key) (j : ℕ) → grouped n g (ks ++ None ∷ []) k j ≡ grouped n g ks k j
grouped_none n g [] k j = refl
grouped_none n g (None ∷ ks) k j = grouped_none (suc n) (suc g) ks k j
grouped_none n g (Some a ∷ ks) k j = ap (λ is. if g == j && same a k then n ∷ is else is) (grouped_none (suc n) g ks k j)

-- one more with a key
pub keyless_some : (n : ℕ) (ks : List (Option Key)) (a : Key) → keyless n (ks ++ Some a ∷ []) ≡ keyless n ks
keyless_some n [] a = refl
keyless_some n (None ∷ ks) a = ap (λ is. n ∷ is) (keyless_some (suc n) ks a)
keyless_some n (Some b ∷ ks) a = keyless_some (suc n) ks a

grouped_some : (n g : ℕ) (ks : List (Option Key)) (a k : Key) (j : ℕ)
    → grouped n g (ks ++ Some a ∷ []) k j ≡ (if (g + length (keyless n ks)) == j && same a k then grouped n g ks k j ++ (n + length ks) ∷ [] else grouped n g ks k j)
grouped_some n g [] a k j = ap (λ m. if m == j && same a k then n ∷ [] else []) (omega arith) ∙ ap (λ m. if (g + 0) == j && same a k then m ∷ [] else []) (omega arith)
grouped_some n g (None ∷ ks) a k j =
    grouped_some (suc n) (suc g) ks a k j
    ∙ ap (λ m. if m == j && same a k then grouped (suc n) (suc g) ks k j ++ (suc n + length ks) ∷ [] else grouped (suc n) (suc g) ks k j) (omega arith)
    ∙ ap (λ m. if (g + suc (length (keyless (suc n) ks))) == j && same a k then grouped (suc n) (suc g) ks k j ++ m ∷ [] else grouped (suc n) (suc g) ks k j) (omega arith)
grouped_some n g (Some b ∷ ks) a k j =
    ap (λ is. if g == j && same b k then n ∷ is else is) (grouped_some (suc n) g ks a k j)
    ∙ by_tests (g == j && same b k) ((g + length (keyless (suc n) ks)) == j && same a k)
    ∙ ap (λ m. if (g + length (keyless (suc n) ks)) == j && same a k then (if g == j && same b k then n ∷ grouped (suc n) g ks k j else grouped (suc n) g ks k j) ++ m ∷ [] else (if g == j && same b k then n ∷ grouped (suc n) g ks k j else grouped (suc n) g ks k j)) (omega arith)
  where
    by_tests : (b c : Bool) → (if b then n ∷ (if c then grouped (suc n) g ks k j ++ (suc n + length ks) ∷ [] else grouped (suc n) g ks k j) else (if c then grouped (suc n) g ks k j ++ (suc n + length ks) ∷ [] else grouped (suc n) g ks k j))
        ≡ (if c then (if b then n ∷ grouped (suc n) g ks k j else grouped (suc n) g ks k j) ++ (suc n + length ks) ∷ [] else (if b then n ∷ grouped (suc n) g ks k j else grouped (suc n) g ks k j))
    by_tests true true = refl
    by_tests true false = refl
    by_tests false true = refl
    by_tests false false = refl

-- what was found of all groups but the last, with that one
pub all_found : (keys : List (Option Key)) (k : Key) (others found new last : List ℕ) (group : ℕ) → others ≡ keyless 0 keys → length others ≤ group → group ≤ length others
    → gathered (grouped 0 0 keys k) others 0 ≡ found ++ gathered (grouped 0 0 keys k) (drop group others) group
    → last ≡ grouped 0 0 keys k (length others) → new ≡ found ++ last → new ≡ kept 0 keys k
all_found keys k others found new last group o past within i l n =
    let L = grouped 0 0 keys k in
    let at : group ≡ length others = omega (arith, past, within) in
    n ∙ ap (λ is. found ++ is) (l ∙ ap L (sym at) ∙ ap (λ os. gathered L os group) (sym (drop_of_length-le others past)))
    ∙ sym i ∙ ap (λ os. gathered L os 0) o ∙ gathered_kept 0 0 keys k

record_same : (a b : Key) → a.kind ≡ b.kind → a.number ≡ b.number → a.integer ≡ b.integer → a.text ≡ b.text → a ≡ b
record_same a b e f g h i = record { kind = e i; number = f i; integer = g i; text = h i }

pub same_sound : (a b : Key) → same a b ≡ true → a ≡ b
same_sound a b h =
    let p = and_parts (a.kind == b.kind) _ h in
    let q = and_parts (a.number == b.number) _ p.1 in
    let r = and_parts (int_eq a.integer b.integer) (bytes_eq a.text b.text) q.1 in
    record_same a b (eqb-true a.kind b.kind p.0) (eqb-true a.number b.number q.0) ((Decides-int_eq a.integer b.integer).0 r.0) ((bytes_eq-Decides a.text b.text).0 r.1)

-- one more with a key is noted in its group
pub noted : (keys : List (Option Key)) (old mid new : P.Key → Option (Vec ℕ Global)) (key : P.Key) (list : Vec ℕ Global) (others : List ℕ) (index : ℕ)
    → others ≡ keyless 0 keys → ((k : P.Key) → items_in (old k) ≡ grouped 0 0 keys (key_in k) k.group)
    → key.group ≡ length others → index ≡ length keys → list.items ≡ items_in (old key) ++ index ∷ []
    → ((k : P.Key) → mid k ≡ cond (same_key key k) None (old k)) → ((k : P.Key) → new k ≡ cond (same_key key k) (Some list) (mid k))
    → (others ≡ keyless 0 (keys ++ Some (key_in key) ∷ [])) × ((k : P.Key) → items_in (new k) ≡ grouped 0 0 (keys ++ Some (key_in key) ∷ []) (key_in k) k.group)
noted keys old mid new key list others index o h g n l m u = (o ∙ sym (keyless_some 0 keys (key_in key)), each)
  where
    a : Key
    a = key_in key

    here : (k : P.Key) → same_key key k ≡ true → list.items ≡ grouped 0 0 keys (key_in k) k.group ++ (0 + length keys) ∷ []
    here k e =
        let p = and_parts (key.group == k.group) (same a (key_in k)) e in
        l ∙ ap (λ is. is ++ index ∷ []) (h key ∙ ap (λ b. grouped 0 0 keys b key.group) (same_sound a (key_in k) p.1) ∙ ap (grouped 0 0 keys (key_in k)) (eqb-true key.group k.group p.0))
        ∙ ap (λ i. grouped 0 0 keys (key_in k) k.group ++ i ∷ []) (n ∙ omega arith)

    go : (k : P.Key) (b : Bool) → same_key key k ≡ b → items_in (cond b (Some list) (cond b None (old k))) ≡ (if b then grouped 0 0 keys (key_in k) k.group ++ (0 + length keys) ∷ [] else grouped 0 0 keys (key_in k) k.group)
    go k true e = here k e
    go k false e = h k

    each : (k : P.Key) → items_in (new k) ≡ grouped 0 0 (keys ++ Some a ∷ []) (key_in k) k.group
    each k =
        ap items_in (u k ∙ ap (λ x. cond (same_key key k) (Some list) x) (m k)) ∙ go k (same_key key k) refl
        ∙ ap (λ i. if i == k.group && same a (key_in k) then grouped 0 0 keys (key_in k) k.group ++ (0 + length keys) ∷ [] else grouped 0 0 keys (key_in k) k.group) (g ∙ ap length o ∙ omega arith)
        ∙ sym (grouped_some 0 0 keys a (key_in k) k.group)

-- and one without a key
pub noted_none : (keys : List (Option Key)) (known : P.Key → Option (Vec ℕ Global)) (others new : List ℕ) (index : ℕ)
    → others ≡ keyless 0 keys → ((k : P.Key) → items_in (known k) ≡ grouped 0 0 keys (key_in k) k.group) → index ≡ length keys → new ≡ others ++ index ∷ []
    → (new ≡ keyless 0 (keys ++ None ∷ [])) × ((k : P.Key) → items_in (known k) ≡ grouped 0 0 (keys ++ None ∷ []) (key_in k) k.group)
noted_none keys known others new index o h n e = (
  e ∙ ap (λ is. is ++ index ∷ []) o ∙ ap (λ i. keyless 0 keys ++ i ∷ []) (n ∙ omega arith) ∙ sym (keyless_none 0 keys),
  λ k. h k ∙ sym (grouped_none 0 0 keys (key_in k) k.group),
)

-- what was taken out, or what stands for nothing
pub taken : (found result : Option (Vec ℕ Global)) (is list : Vec ℕ Global) → result ≡ found → result ≡ Some is → list ≡ is → list.items ≡ items_in found
taken found result is list e f g = ap (λ v. v.items) g ∙ ap items_in (sym f ∙ e)

pub taken_none : (found result : Option (Vec ℕ Global)) (new list : Vec ℕ Global) → result ≡ found → result ≡ None → list ≡ new → new.items ≡ [] → list.items ≡ items_in found
taken_none found result new list e f g n = ap (λ v. v.items) g ∙ n ∙ ap items_in (sym f ∙ e)
