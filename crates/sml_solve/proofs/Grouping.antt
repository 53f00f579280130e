-- Classes grow by what the demands make equal, until nothing is left to put together.
use Rattle.std.proofs.Common.{◌≡◌, ◌⊎◌, ℕ, zero, suc, ◌≤◌, Option, Some, None, List, [], ◌∷◌, ◌++◌, length, map, refl, ap, sym, subst, ◌∙◌, inl, inr, arith}
use Rattle.std.specs.List.{AllByRecursion}
use Rattle.std.specs.declared.cmp.Ordering.{Ordering}
use Rattle.std.specs.declared.cmp.Ordering.TheVariants.{Less, Equal, Greater}
use Rattle.std.proofs.Math.Decide.{ℕ_discrete}
use Rattle.sml_tree.specs.Trees.{Id}
use Rattle.sml_objects.specs.Maps.{lookup, by_order, order_of}
use Rattle.sml_objects.specs.Objects.{arrow, row, name, app, types_of}
use Rattle.sml_objects.specs.Labels.{with_labels}
use Rattle.sml_graph.specs.Asked.{Demand, equal, has_fields, asks}
use Rattle.sml_solve.specs.Clashes.{IsOneOf, MakesEqual, given, same, turned, joined, component, field, fields}
use Rattle.sml_solve.proofs.Members.{in-either, gather, gathered, in-map, all-or, without, without-less, in-without}
use Rattle.sml_solve.proofs.Discerning.{same_id, same_head, same_type}
use Rattle.sml_solve.proofs.Subterms.{Ty, terms, term-in, Headed, headed, headed-is, headed-part}
use Rattle.sml_solve.proofs.Partitions.{Pair, when, when-in, zipped, zipped-at, pairs_under, Field, asked_fields, Source, source, field_pair, row_pairs, given_pairs, Classes, together, component_needs, row_needs, field_needs, needs}

-- only what the demands make equal is in one class
abbrev pub AreMade : List Demand → Classes → Type 0
AreMade ds c = (t u : Ty) → IsOneOf t (terms ds) → IsOneOf u (terms ds) → c t ≡ c u → MakesEqual ds t u

record IsNeed (ds : List Demand) (p : Pair) : Type 0 where
  pub first : IsOneOf p.0 (terms ds)
  pub second : IsOneOf p.1 (terms ds)
  pub made : MakesEqual ds p.0 p.1

pub found-in : (l : Id) (ls : List Id) (ts : List Ty) (w : Ty) → lookup l (with_labels ls ts) ≡ Some w → IsOneOf w ts
found-in l [] ts w e = cc
found-in l (m ∷ ls) [] w e = cc
found-in l (m ∷ ls) (t ∷ ts) w e = go (order_of l m) (λ f. found-in l ls ts w f) e
  where
    go : (o : Ordering) → (lookup l (with_labels ls ts) ≡ Some w → IsOneOf w ts) → by_order o (lookup l (with_labels ls ts)) (Some t) (lookup l (with_labels ls ts)) ≡ Some w → IsOneOf w (t ∷ ts)
    go Less k f = inr (k f)
    go Equal k f = inl cc
    go Greater k f = inr (k f)

module _ (ds : List Demand) where
  given-need : (d : Demand) (p : Pair) → IsOneOf d ds → IsOneOf p (given_pairs d) → IsNeed ds p
  given-need (equal t v) p i (inl e) =
      let a : p.0 ≡ t = ap (λ (q : Pair). q.0) e in
      let b : p.1 ≡ v = ap (λ (q : Pair). q.1) e in
      record {
        first = term-in ds (equal t v) p.0 i (inl a);
        second = term-in ds (equal t v) p.1 i (inr (inl b));
        made = given p.0 p.1 (subst (λ x. IsOneOf (equal p.0 x) ds) (sym b) (subst (λ x. IsOneOf (equal x v) ds) (sym a) i));
      }
  given-need (equal t v) p i (inr n) = absurd n
  given-need (has_fields r fs) p i n = absurd n
  given-need (asks a t) p i n = absurd n

  module _ (c : Classes) (made : AreMade ds c) where
    under-need : (t u : Ty) (p : Pair) → IsOneOf t (terms ds) → IsOneOf u (terms ds) → c t ≡ c u → (a b : Headed) → headed t ≡ a → headed u ≡ b → IsOneOf p (pairs_under a b) → IsNeed ds p
    under-need t u p i j q None b e f n = absurd n
    under-need t u p i j q (Some a) None e f n = absurd n
    under-need t u p i j q (Some a) (Some b) e f n =
        let w = when-in (same_head a.0 b.0) p (zipped a.1 b.1) n in
        let z = zipped-at p a.1 b.1 w.1 in
        let l : MakesEqual ds (app a.0 (types_of a.1)) u = subst (λ x. MakesEqual ds x u) (headed-is t a.0 a.1 e) (made t u i j q) in
        let m : MakesEqual ds (app a.0 (types_of a.1)) (app a.0 (types_of b.1)) = subst (λ x. MakesEqual ds (app a.0 (types_of a.1)) x) (headed-is u b.0 b.1 f ∙ ap (λ h. app h (types_of b.1)) (sym w.0)) l in
        record {
          first = headed-part ds t p.0 a.0 a.1 i e z.5;
          second = headed-part ds u p.1 b.0 b.1 j f z.6;
          made = component p.0 p.1 a.0 a.1 b.1 z.0 z.1 z.2 m z.3 z.4;
        }

    field-pair-need : (x : Field) (u : Ty) (p : Pair) (ls : List Id) (ts : List Ty) → Source ds x → IsOneOf u (terms ds) → c x.0 ≡ c u → headed u ≡ Some (row ls, ts) → (o : Option Ty) → lookup x.1 (with_labels ls ts) ≡ o → IsOneOf p (field_pair x.2 o) → IsNeed ds p
    field-pair-need x u p ls ts s j q e None f n = absurd n
    field-pair-need x u p ls ts s j q e (Some w) f (inl r) =
        let a : p.0 ≡ x.2 = ap (λ (y : Pair). y.0) r in
        let b : p.1 ≡ w = ap (λ (y : Pair). y.1) r in
        let m : MakesEqual ds x.0 (app (row ls) (types_of ts)) = subst (λ y. MakesEqual ds x.0 y) (headed-is u (row ls) ts e) (made x.0 u s.row_in j q) in
        record {
          first = subst (λ y. IsOneOf y (terms ds)) (sym a) s.field_in;
          second = headed-part ds u p.1 (row ls) ts j e (subst (λ y. IsOneOf y ts) (sym b) (found-in x.1 ls ts w f));
          made = field p.0 p.1 x.0 s.fields x.1 ls ts s.demand (subst (λ y. IsOneOf (x.1, y) s.fields) (sym a) s.among) m (f ∙ ap Some (sym b));
        }
    field-pair-need x u p ls ts s j q e (Some w) f (inr n) = absurd n

    row-need : (x : Field) (u : Ty) (p : Pair) → Source ds x → IsOneOf u (terms ds) → c x.0 ≡ c u → (a : Headed) → headed u ≡ a → IsOneOf p (row_pairs x a) → IsNeed ds p
    row-need x u p s j q None e n = absurd n
    row-need x u p s j q (Some (arrow, ts)) e n = absurd n
    row-need x u p s j q (Some (row ls, ts)) e n = field-pair-need x u p ls ts s j q e (lookup x.1 (with_labels ls ts)) refl n
    row-need x u p s j q (Some (name m, ts)) e n = absurd n

    field-need : (x y : Field) (p : Pair) → Source ds x → Source ds y → c x.0 ≡ c y.0 → IsOneOf p (when (same_id x.1 y.1) ((x.2, y.2) ∷ [])) → IsNeed ds p
    field-need x y p s r q n =
        let w = when-in (same_id x.1 y.1) p ((x.2, y.2) ∷ []) n in
        let e : p ≡ (x.2, y.2) = elim w.1 [ inl e ↦ e | inr z ↦ absurd z ] in
        let a : p.0 ≡ x.2 = ap (λ (z : Pair). z.0) e in
        let b : p.1 ≡ y.2 = ap (λ (z : Pair). z.1) e in
        record {
          first = subst (λ z. IsOneOf z (terms ds)) (sym a) s.field_in;
          second = subst (λ z. IsOneOf z (terms ds)) (sym b) r.field_in;
          made = fields p.0 p.1 x.0 y.0 s.fields r.fields x.1 s.demand r.demand
              (subst (λ z. IsOneOf (x.1, z) s.fields) (sym a) s.among)
              (subst (λ z. IsOneOf (z, p.1) r.fields) (sym w.0) (subst (λ z. IsOneOf (y.1, z) r.fields) (sym b) r.among))
              (made x.0 y.0 s.row_in r.row_in q);
        }

    needs-made : (p : Pair) → IsOneOf p (needs ds c) → IsNeed ds p
    needs-made p n =
        elim (in-either p (gather given_pairs ds) (component_needs (terms ds) c ++ (row_needs (asked_fields ds) (terms ds) c ++ field_needs (asked_fields ds) c)) n) [
          | inl k ↦ let a = gathered given_pairs ds p k in given-need a.0 p a.1 a.2
          | inr k ↦ elim (in-either p (component_needs (terms ds) c) (row_needs (asked_fields ds) (terms ds) c ++ field_needs (asked_fields ds) c) k) [
            | inl m ↦
                let a = gathered (λ t. gather (λ u. together c t u (pairs_under (headed t) (headed u))) (terms ds)) (terms ds) p m in
                let b = gathered (λ u. together c a.0 u (pairs_under (headed a.0) (headed u))) (terms ds) p a.2 in
                let w = when-in (ℕ_discrete (c a.0) (c b.0)) p (pairs_under (headed a.0) (headed b.0)) b.2 in
                under-need a.0 b.0 p a.1 b.1 w.0 (headed a.0) (headed b.0) refl refl w.1
            | inr m ↦ elim (in-either p (row_needs (asked_fields ds) (terms ds) c) (field_needs (asked_fields ds) c) m) [
              | inl r ↦
                  let a = gathered (λ f. gather (λ u. together c f.0 u (row_pairs f (headed u))) (terms ds)) (asked_fields ds) p r in
                  let b = gathered (λ u. together c a.0.0 u (row_pairs a.0 (headed u))) (terms ds) p a.2 in
                  let w = when-in (ℕ_discrete (c a.0.0) (c b.0)) p (row_pairs a.0 (headed b.0)) b.2 in
                  row-need a.0 b.0 p (source ds a.0 a.1) b.1 w.0 (headed b.0) refl w.1
              | inr r ↦
                  let a = gathered (λ f. gather (λ g. together c f.0 g.0 (when (same_id f.1 g.1) ((f.2, g.2) ∷ []))) (asked_fields ds)) (asked_fields ds) p r in
                  let b = gathered (λ g. together c a.0.0 g.0 (when (same_id a.0.1 g.1) ((a.0.2, g.2) ∷ []))) (asked_fields ds) p a.2 in
                  let w = when-in (ℕ_discrete (c a.0.0) (c b.0.0)) p (when (same_id a.0.1 b.0.1) ((a.0.2, b.0.2) ∷ [])) b.2 in
                  field-need a.0 b.0 p (source ds a.0 a.1) (source ds b.0 b.1) w.0 w.1
            ]
          ]
        ]

-- two classes become one

abbrev pick : {P : Type 0} → Dec P → ℕ → ℕ → ℕ
pick (yes p) a b = a
pick (no p) a b = b

abbrev put_together : Classes → ℕ → ℕ → Classes
put_together c a b t = pick (ℕ_discrete (c t) a) b (c t)

pick-cases : (P : ℕ → Type 0) (x a b y : ℕ) → (x ≡ a → P b) → ((x ≡ a → ⊥) → P y) → P (pick (ℕ_discrete x a) b y)
pick-cases P x a b y f g = elim (ℕ_discrete x a) as (λ d. P (pick d b y)) [ yes e ↦ f e | no d ↦ g d ]

module _ (ds : List Demand) (c : Classes) (made : AreMade ds c) (p : Pair) (n : IsNeed ds p) where
  abbrev both : Classes
  both = put_together c (c p.0) (c p.1)

  both-made : AreMade ds both
  both-made t u i j =
      pick-cases (λ x. x ≡ both u → MakesEqual ds t u) (c t) (c p.0) (c p.1) (c t)
      (λ e. pick-cases (λ y. c p.1 ≡ y → MakesEqual ds t u) (c u) (c p.0) (c p.1) (c u)
      (λ f q. made t u i j (e ∙ sym f))
      (λ f q. joined t p.0 u (made t p.0 i n.first e) (joined p.0 p.1 u n.made (made p.1 u n.second j q))))
      (λ e. pick-cases (λ y. c t ≡ y → MakesEqual ds t u) (c u) (c p.0) (c p.1) (c u)
      (λ f q. joined t p.1 u (made t p.1 i n.second q) (joined p.1 p.0 u (turned p.0 p.1 n.made) (made p.0 u n.first j (sym f))))
      (λ f q. made t u i j q))

  both-live : (ls : List ℕ) → ((t : Ty) → IsOneOf t (terms ds) → IsOneOf (c t) ls) → (c p.0 ≡ c p.1 → ⊥) → (t : Ty) → IsOneOf t (terms ds) → IsOneOf (both t) (without (c p.0) ls)
  both-live ls l d t i =
      pick-cases (λ x. IsOneOf x (without (c p.0) ls)) (c t) (c p.0) (c p.1) (c t)
      (λ e. in-without (c p.0) (c p.1) ls (λ f. d (sym f)) (l p.1 n.second))
      (λ e. in-without (c p.0) (c t) ls e (l t i))

-- Classes of what the demands make equal, with nothing left to put together.
pub record AreSettled (ds : List Demand) : Type 0 where
  pub classes : Classes
  pub made : AreMade ds classes
  pub done : AllByRecursion (λ p. classes p.0 ≡ classes p.1) (needs ds classes)

none-in : (x : ℕ) (xs : List ℕ) → IsOneOf x xs → length xs ≤ 0 → ⊥
none-in x [] h l = h
none-in x (y ∷ xs) h l = omega (arith, l)

Apart : List Demand → Classes → Type 0
Apart ds c = (p : Pair) × IsOneOf p (needs ds c) × (c p.0 ≡ c p.1 → ⊥)

apart : (ds : List Demand) (c : Classes) → AllByRecursion (λ p. c p.0 ≡ c p.1) (needs ds c) ⊎ Apart ds c
unfolding Apart
apart ds c = all-or (λ p. c p.0 ≡ c p.1) (Apart ds c) (needs ds c) (λ p h. elim (ℕ_discrete (c p.0) (c p.1)) [ yes e ↦ inl e | no d ↦ inr (p, h, d) ])

settle : (ds : List Demand) (m : ℕ) (c : Classes) (ls : List ℕ) → length ls ≤ m → ((t : Ty) → IsOneOf t (terms ds) → IsOneOf (c t) ls) → AreMade ds c → AreSettled ds
unfolding Apart
settle ds zero c ls l live made =
    elim (apart ds c) [
      | inl a ↦ record { classes = c; made = made; done = a }
      | inr x ↦ absurd (none-in (c x.0.0) ls (live x.0.0 (needs-made ds c made x.0 x.1).first) l)
    ]
settle ds (suc m) c ls l live made =
    elim (apart ds c) [
      | inl a ↦ record { classes = c; made = made; done = a }
      | inr x ↦
          let n = needs-made ds c made x.0 x.1 in
          let k = without-less (c x.0.0) ls (live x.0.0 n.first) in
          settle ds m (both ds c made x.0 n) (without (c x.0.0) ls) (omega (arith, k, l)) (both-live ds c made x.0 n ls live x.2) (both-made ds c made x.0 n)
    ]

-- at first each type is alone

abbrev place : Ty → List Ty → ℕ
place t [] = 0
place t (x ∷ xs) = pick (same_type t x) 0 (suc (place t xs))

place-cases : (P : ℕ → Type 0) (t x : Ty) (y : ℕ) → (t ≡ x → P 0) → ((t ≡ x → ⊥) → P y) → P (pick (same_type t x) 0 y)
place-cases P t x y f g = elim (same_type t x) as (λ d. P (pick d 0 y)) [ yes e ↦ f e | no d ↦ g d ]

place-same : (t u : Ty) (xs : List Ty) → IsOneOf t xs → IsOneOf u xs → place t xs ≡ place u xs → t ≡ u
place-same t u [] i j = λ e. absurd i
place-same t u (x ∷ xs) i j =
    place-cases (λ a. a ≡ place u (x ∷ xs) → t ≡ u) t x (suc (place t xs))
    (λ e. place-cases (λ b. 0 ≡ b → t ≡ u) u x (suc (place u xs)) (λ f q. e ∙ sym f) (λ f q. absurd (omega (arith, q))))
    (λ d. place-cases (λ b. suc (place t xs) ≡ b → t ≡ u) u x (suc (place u xs))
    (λ f q. absurd (omega (arith, q)))
    (λ f q. place-same t u xs (elim i [ inl e ↦ absurd (d e) | inr k ↦ k ]) (elim j [ inl e ↦ absurd (f e) | inr k ↦ k ]) (omega (arith, q))))

pub settled : (ds : List Demand) → AreSettled ds
settled ds =
    let c : Classes = λ t. place t (terms ds) in
    settle ds (length (terms ds)) c (map c (terms ds)) (length-mapped c (terms ds)) (λ t i. in-map c t (terms ds) i)
    (λ t u i j e. same t u (place-same t u (terms ds) i j e))
  where
    length-mapped : (c : Classes) (ts : List Ty) → length (map c ts) ≤ length ts
    length-mapped c [] = omega arith
    length-mapped c (t ∷ ts) = let h = length-mapped c ts in omega (arith, h)
