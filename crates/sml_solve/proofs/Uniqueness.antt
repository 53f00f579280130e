-- A type has one reading and one scheme.
use Rattle.std.proofs.Common.{◌≡◌, ℕ, ◌↔◌, inl, inr, Bool, true, false, cond, Some, List, [], ◌∷◌, ◌++◌, map, sym, ◌∙◌, ap, subst, refl, nat_eq}
use Rattle.std.specs.List.{AllByRecursion, list_any}
use Rattle.sml_objects.specs.Fates.{close_as}
use Rattle.sml_objects.specs.Names.{int}
use Rattle.sml_objects.specs.Initial.{Name, initial}
use Rattle.sml_objects.specs.Objects as O
use Rattle.sml_objects.specs.Types.{assign, replace_type, replace_types, variables_after, variables_after_all}
use Rattle.sml_objects.specs.declared.fates.Fate.{Fate}
use Rattle.sml_objects.specs.declared.fates.Fate.TheVariants.{Bind, Keep, Default}
use Rattle.sml_tree.specs.Trees.{Id}
use Rattle.sml_objects.specs.Maps.{lookup}
use Rattle.sml_graph.specs.declared.graph.Graph.{Graph}
use Rattle.sml_graph.specs.Interned.{through}
use Rattle.sml_graph.specs.CodeWhole.{IsKept}
use Rattle.sml_layers.specs.Worlds.{finite}
use Rattle.sml_graph.specs.Worlds.{Assignment}
use Rattle.sml_graph.specs.Asked.{Asked, asked_of}
use Rattle.sml_schemes.specs.Left.{IsMadeOf, AreMadeOf, IsLeft, IsReading}
use Rattle.sml_schemes.specs.Schemes.{IsFateOf, IsSchemeOfReading, HasOneScheme}
use Rattle.sml_graph.proofs.Merging.{all-append}
use Rattle.sml_graph.proofs.Rowing.{components}
use Rattle.sml_demands.proofs.Marking.{IsMark, type_labels, types_labels, nodes_labels, marked, marked-meets, marked-is}
use Rattle.sml_demands.proofs.Opening.{fresh_label, fresh-none, IsNone, none-front, none-back, head_labels, component-head}
use Rattle.sml_demands.proofs.Owning.{found-or-not, permitted, left-loose}
use Rattle.sml_graph.proofs.Searching.{all-parts}

mutual
  unfolding IsMadeOf AreMadeOf replace_type replace_types

  pub stays : (P : ℕ → Type 0) (σ : Assignment finite) (t : O.MlType Name) → ((v : ℕ) → P v → σ v ≡ O.free v) → IsMadeOf P t → assign σ t ≡ t
  stays P σ (O.bound k) f m = absurd m
  stays P σ (O.free v) f m = f v m
  stays P σ (O.app h ts) f m = ap (O.app h) (all-stay P σ ts f m)

  all-stay : (P : ℕ → Type 0) (σ : Assignment finite) (ts : O.MlTypes Name) → ((v : ℕ) → P v → σ v ≡ O.free v) → AreMadeOf P ts → replace_types O.bound σ ts ≡ ts
  all-stay P σ O.no_type f m = refl
  all-stay P σ (O.and_type t ts) f m = λ i. O.and_type (stays P σ t f m.0 i) (all-stay P σ ts f m.1 i)

-- Types that have a mark tell the unknowns that are left apart.

unmarked : (l : Id) (v : ℕ) (h : O.Head Name) (ts : O.MlTypes Name) (t : O.MlType Name) → IsNone l (head_labels h) → IsMark l v t → t ≡ O.app h ts → ⊥
unmarked l v h ts t n m e = found-or-not l (O.app h ts) t (O.free v) (sym e) (component-head l h ts n) m

same-mark : (l : Id) (v w : ℕ) (a b : O.MlType Name) → IsMark l v a → IsMark l w b → a ≡ b → v ≡ w
same-mark l v w a b m n e = let f : Some (O.free v) ≡ Some (O.free w) = sym m ∙ (ap (λ t. lookup l (components t)) e ∙ n) in cc

module _ (P : ℕ → Type 0) (σ : Assignment finite) (l : Id) (marks : (v : ℕ) → P v → IsMark l v (σ v)) where
  mutual
    unfolding IsMadeOf AreMadeOf replace_type replace_types type_labels types_labels

    told-apart : (r q : O.MlType Name) → IsMadeOf P r → IsMadeOf P q → IsNone l (type_labels r) → IsNone l (type_labels q) → assign σ r ≡ assign σ q → r ≡ q
    told-apart (O.bound k) q m n x y e = absurd m
    told-apart (O.free v) (O.bound k) m n x y e = absurd n
    told-apart (O.free v) (O.free w) m n x y e = ap O.free (same-mark l v w (σ v) (σ w) (marks v m) (marks w n) e)
    told-apart (O.free v) (O.app h ts) m n x y e = absurd (unmarked l v h (replace_types O.bound σ ts) (σ v) (none-front l (head_labels h) (types_labels ts) y) (marks v m) e)
    told-apart (O.app h ts) (O.bound k) m n x y e = absurd n
    told-apart (O.app h ts) (O.free v) m n x y e = absurd (unmarked l v h (replace_types O.bound σ ts) (σ v) (none-front l (head_labels h) (types_labels ts) x) (marks v n) (sym e))
    told-apart (O.app h ts) (O.app k us) m n x y e =
        let f : O.app h (replace_types O.bound σ ts) ≡ O.app k (replace_types O.bound σ us) = e in
        let a : h ≡ k = cc in
        let b : replace_types O.bound σ ts ≡ replace_types O.bound σ us = cc in
        let c = all-told-apart ts us m n (none-back l (head_labels h) (types_labels ts) x) (none-back l (head_labels k) (types_labels us) y) b in
        λ i. O.app (a i) (c i)

    all-told-apart : (ts us : O.MlTypes Name) → AreMadeOf P ts → AreMadeOf P us → IsNone l (types_labels ts) → IsNone l (types_labels us) → replace_types O.bound σ ts ≡ replace_types O.bound σ us → ts ≡ us
    all-told-apart O.no_type O.no_type m n x y e = refl
    all-told-apart O.no_type (O.and_type t us) m n x y e = let f : O.no_type ≡ O.and_type (assign σ t) (replace_types O.bound σ us) = e in absurd cc
    all-told-apart (O.and_type t ts) O.no_type m n x y e = let f : O.and_type (assign σ t) (replace_types O.bound σ ts) ≡ O.no_type = e in absurd cc
    all-told-apart (O.and_type t ts) (O.and_type v us) m n x y e =
        let f : O.and_type (assign σ t) (replace_types O.bound σ ts) ≡ O.and_type (assign σ v) (replace_types O.bound σ us) = e in
        let a : assign σ t ≡ assign σ v = cc in
        let b : replace_types O.bound σ ts ≡ replace_types O.bound σ us = cc in
        let c = told-apart t v m.0 n.0 (none-front l (type_labels t) (types_labels ts) x) (none-front l (type_labels v) (types_labels us) y) a in
        let d = all-told-apart ts us m.1 n.1 (none-back l (type_labels t) (types_labels ts) x) (none-back l (type_labels v) (types_labels us) y) b in
        λ i. O.and_type (c i) (d i)

one-reading : (u : ℕ) (us : List ℕ) (g : Graph) (b : Bool) (t r q : O.MlType Name) → IsKept u g us → IsReading (asked_of u us g b) t r → IsReading (asked_of u us g b) t q → r ≡ q
unfolding IsReading
one-reading u us g b t r q k x y =
    let ns = g.nodes.items in
    let o = k.owners in
    let h = k.whole.rank in
    let more = type_labels r ++ type_labels q in
    let l = fresh_label (nodes_labels ns ++ more) in
    let fresh = fresh-none (nodes_labels ns ++ more) in
    let here = none-front l (nodes_labels ns) more fresh in
    let there = none-back l (nodes_labels ns) more fresh in
    let σ = through finite us (marked ns us o h l here) in
    let p = permitted u us g b (marked ns us o h l here) (marked-meets ns us o h l here) in
    let marks : (v : ℕ) → IsLeft (asked_of u us g b) v → IsMark l v (σ v) = λ v f. marked-is ns us o h l here v (left-loose u us g b v k.whole.sound h o f) in
    told-apart (IsLeft (asked_of u us g b)) σ l marks r q x.0 y.0 (none-front l (type_labels r) (type_labels q) there) (none-back l (type_labels r) (type_labels q) there) (x.1 σ p ∙ sym (y.1 σ p))

-- the variables of a type that is made of some

seen-also : (P : ℕ → Type 0) (v : ℕ) (b : Bool) (seen : List ℕ) → AllByRecursion P seen → P v → AllByRecursion P (cond b seen (seen ++ v ∷ []))
seen-also P v true seen a h = a
seen-also P v false seen a h = all-append P seen (v ∷ []) a (h, tt)

mutual
  unfolding IsMadeOf AreMadeOf variables_after variables_after_all

  pub variables-made : (P : ℕ → Type 0) (seen : List ℕ) (t : O.MlType Name) → AllByRecursion P seen → IsMadeOf P t → AllByRecursion P (variables_after seen t)
  variables-made P seen (O.bound k) a m = absurd m
  variables-made P seen (O.free v) a m = seen-also P v (list_any (nat_eq v) seen) seen a m
  variables-made P seen (O.app h ts) a m = all-variables-made P seen ts a m

  all-variables-made : (P : ℕ → Type 0) (seen : List ℕ) (ts : O.MlTypes Name) → AllByRecursion P seen → AreMadeOf P ts → AllByRecursion P (variables_after_all seen ts)
  all-variables-made P seen O.no_type a m = a
  all-variables-made P seen (O.and_type t ts) a m = all-variables-made P (variables_after seen t) ts (variables-made P seen t a m.0) m.1

-- an unknown has one fate

same-flag : {A : Type 0} (a b : Bool) → (a ≡ true) ↔ A → (b ≡ true) ↔ A → a ≡ b
same-flag true true p q = refl
same-flag true false p q = sym (q.1 (p.0 refl))
same-flag false true p q = p.1 (q.0 refl)
same-flag false false p q = refl

bind-keep : (s : Asked) (bs : List Bool) (x : Bool) (v : ℕ) (e : Bool) → IsFateOf s bs x v (Bind e) → IsFateOf s bs x v Keep → ⊥
bind-keep s bs x v e p q = elim q.1 [ inl y ↦ let z : true ≡ false = sym y ∙ p.1 in cc | inr m ↦ elim m [ inl a ↦ p.2 a | inr f ↦ p.3 f ] ]

pub one-fate : (s : Asked) (bs : List Bool) (x : Bool) (v : ℕ) (f g : Fate) → IsFateOf s bs x v f → IsFateOf s bs x v g → f ≡ g
one-fate s bs x v (Bind a) (Bind b) p q = ap Bind (same-flag a b p.4 q.4)
one-fate s bs x v (Bind a) Keep p q = absurd (bind-keep s bs x v a p q)
one-fate s bs x v (Bind a) Default p q = absurd (p.0 q)
one-fate s bs x v Keep (Bind b) p q = absurd (bind-keep s bs x v b q p)
one-fate s bs x v Keep Keep p q = refl
one-fate s bs x v Keep Default p q = absurd (p.0 q)
one-fate s bs x v Default (Bind b) p q = absurd (q.0 p)
one-fate s bs x v Default Keep p q = absurd (q.0 p)
one-fate s bs x v Default Default p q = refl

pub same-fates : (f g : ℕ → Fate) (vs : List ℕ) → AllByRecursion (λ v. f v ≡ g v) vs → map f vs ≡ map g vs
same-fates f g [] a = refl
same-fates f g (v ∷ vs) a = λ i. a.0 i ∷ same-fates f g vs a.1 i

one-of-reading : (s : Asked) (bs : List Bool) (x : Bool) (r : O.MlType Name) (θ η : O.Scheme Name) → IsMadeOf (IsLeft s) r → IsSchemeOfReading s bs x r θ → IsSchemeOfReading s bs x r η → θ ≡ η
one-of-reading s bs x r θ η m a b =
    let same = same-fates a.fate b.fate (variables_after [] r) (all-parts (IsLeft s) (λ v. a.fate v ≡ b.fate v) (variables_after [] r) (λ v l. one-fate s bs x v (a.fate v) (b.fate v) (a.fates v l) (b.fates v l)) (variables-made (IsLeft s) [] r tt m)) in
    a.scheme ∙ (ap (λ fs. close_as (O.named (initial int)) fs r) same ∙ sym b.scheme)

pub one-scheme : (u : ℕ) (us : List ℕ) (g : Graph) (b : Bool) → IsKept u g us → HasOneScheme (asked_of u us g b)
unfolding IsReading
one-scheme u us g b k bs x t θ η a c =
    let s = asked_of u us g b in
    let e = one-reading u us g b t a.reading c.reading k a.reads c.reads in
    one-of-reading s bs x a.reading θ η a.reads.0 a.closed (subst (λ r. IsSchemeOfReading s bs x r η) (sym e) c.closed)
