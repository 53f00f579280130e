-- Rows that are asked for.
use Rattle.std.proofs.Common.{◌≡◌, ℕ, zero, suc, ◌+◌, ◌<◌, ◌≤◌, inl, inr, List, [], ◌∷◌, ◌++◌, length, get_or, take, Global, sym, ◌∙◌, ap, subst, refl, arith, add-one, length-append}
use Rattle.std.specs.Prelude.{Bool}
use Rattle.std.proofs.lemmas.Bool.{cases_lt}
use Rattle.std.specs.List.{AllByRecursion}
use Rattle.std.specs.declared.rc.Rc.{Rc}
use Rattle.sml_tree.specs.Trees.{Id}
use Rattle.sml_tree.specs.Views.{ident_of}
use Rattle.sml_objects.specs.Initial.{Name}
use Rattle.sml_objects.specs.Objects as O
use Rattle.sml_objects.specs.Views.{type_of}
use Rattle.sml_objects.specs.declared.objects.MlType.{MlType}
use Rattle.sml_graph.specs.declared.graph.Graph.{Graph}
use Rattle.sml_layers.specs.declared.layer.Layer.{Layer}
use Rattle.sml_layers.specs.declared.layer.Layer.TheVariants.{Equations}
use Rattle.sml_graph.specs.declared.change.Change.{Change}
use Rattle.sml_graph.specs.declared.node.Node.{Node}
use Rattle.sml_graph.specs.declared.node.Node.TheVariants.{Link, Open}
use Rattle.sml_layers.specs.Worlds.{World, finite, infinite, typed, world}
use Rattle.sml_graph.specs.Worlds.{In, Assignment}
use Rattle.sml_layers.specs.Rows.{fields_at}
use Rattle.sml_graph.specs.Rows.{HasFields, IsField, kids_of}
use Rattle.sml_graph.specs.Graphs.{node_at, fields_of, Meets, MeetsPairs, SameSolutions, HasNoSolution, ArePairsIn, IsSound, IsKnown, AreOwners, parts}
use Rattle.sml_graph.specs.Changes.{Changes, HasChange, IsChange, SameOutside, AreInside}
use Rattle.sml_graph.specs.Interned.{IsOver, through, Interns, InternsFields, IsPushed, IsRowWith, AsksRow, demanded}
use Rattle.sml_graph.specs.CodeRanks.{HasRank, order_at, AreOrdered}
use Rattle.sml_graph.specs.Limits.{limit_at, IsClosed, IsFit}
use Rattle.sml_graph.specs.Asked.{asked_of, Permits, has_fields, CanMeet, IsFirstUnmet}
use Rattle.sml_demands.specs.CodeLevels.{Moves}
use Rattle.sml_graph.specs.CodeWhole.{IsFull, IsWhole, IsChanged, Finishes, IsKept}
use Rattle.sml_graph.proofs.Rowing.{Key, has-front, has-back, has-both}
use Rattle.sml_graph.proofs.Merging.{same_or_not, all-append, fields-append, field-same, field-there, inside-field, kids-more, MeetsPairs-append, MeetsPairs-front, MeetsPairs-back, ArePairsIn-append}
use Rattle.sml_graph.proofs.Interning.{inside-at, inside-more, sound-more, typed-same, beyond, beyond-below, beyond-above, meets-beyond, meets-before, meets-push, node_at-last, node_at-before}
use Rattle.sml_graph.proofs.Searching.{all-parts}
use Rattle.sml_graph.proofs.Changing.{has-covered, change-earlier}
use Rattle.sml_graph.proofs.Ordering.{changed-ordered}
use Rattle.sml_graph.proofs.Limiting.{closed-as}
use Rattle.sml_demands.proofs.Owning.{owners-grown, owners-merged}
use Rattle.sml_demands.proofs.Demanding.{Stands, upto-as, upto-agree, through-agree, changed-but}

-- nodes for the types of fields, one after another

pub interns-none : (ns : List Node) (us : List ℕ) (fs : List (Id × ℕ)) (ps : List (ℕ × ℕ)) → IsSound ns → fs ≡ [] → ps ≡ [] → InternsFields ns us [] ns fs ps
interns-none ns us fs ps s e f = rw (e, f) record {
  len = omega arith;
  inside = tt;
  pairs = tt;
  sound = s;
  before = λ i h. refl;
  filled = λ i h l. absurd (omega (arith, h, l));
  back = λ w τ m. m;
  same = λ w τ t m. (λ x. x.0, λ x. (x, tt));
  forth = λ w τ m. (τ, m, λ i h. refl);
}

pairs-more : (n m : ℕ) (ps : List (ℕ × ℕ)) → n ≤ m → ArePairsIn n ps → ArePairsIn m ps
pairs-more n m [] h a = tt
pairs-more n m (p ∷ ps) h a = let x = a.0.0 in let y = a.0.1 in ((omega (arith, x, h), omega (arith, y, h)), pairs-more n m ps h a.1)

module _ (ns cs ms : List Node) (us : List ℕ) (rs : List (Id × O.MlType Name)) (fs : List (Id × ℕ)) (ps : List (ℕ × ℕ)) (l : Id) (t : O.MlType Name) (r : ℕ) (m : InternsFields ns us rs cs fs ps) (x : Interns cs us t ms r) where
  more-forth : (w : World) (τ : Assignment w) → Meets w ns τ → (υ : Assignment w) × Meets w ms υ × ((i : ℕ) → i < length ns → υ i ≡ τ i)
  more-forth w τ k =
      let a = m.forth w τ k in
      let b = x.forth w a.0 a.1 in
      let n = m.len in
      (b.0, b.1, λ i h. b.2 i (omega (arith, h, n)) ∙ a.2 i h)

  more-filled : (i : ℕ) → length ns ≤ i → i < length ms → IsKnown (node_at ms i)
  more-filled i h k = elim (cases_lt i (length cs)) [ inl b ↦ rw (x.before i b) (m.filled i h b) | inr g ↦ x.filled i g k ]

  -- with a label more
  pub interns-new : (gs : List (Id × ℕ)) (qs : List (Id × O.MlType Name)) → gs ≡ fs ++ (l, r) ∷ [] → qs ≡ rs ++ (l, t) ∷ [] → InternsFields ns us qs ms gs ps
  interns-new gs qs e f = rw (e, f) record {
    len = let a = m.len in let b = x.len in omega (arith, a, b);
    inside = rw kids-more (all-append (λ k. k < length ms) (kids_of fs) (r ∷ []) (inside-more (length cs) (length ms) (kids_of fs) x.len m.inside) (x.inside, tt));
    pairs = pairs-more (length cs) (length ms) ps x.len m.pairs;
    sound = x.sound;
    before = λ i h. let n = m.len in x.before i (omega (arith, h, n)) ∙ m.before i h;
    filled = more-filled;
    back = λ w τ k. m.back w τ (x.back w τ k).0;
    same = λ w τ z k.
        let b = x.back w τ k in
        let g : O.MlType Name → In w = typed w (through w us τ) in
        let one : fields_at τ (fs ++ (l, r) ∷ []) ≡ fields_at τ fs ++ (l, τ r) ∷ [] = fields-append τ fs ((l, r) ∷ []) in
        let two : fields_at g (rs ++ (l, t) ∷ []) ≡ fields_at g rs ++ (l, g t) ∷ [] = fields-append g rs ((l, t) ∷ []) in
        let last : HasFields w z ((l, τ r) ∷ []) ≡ HasFields w z ((l, g t) ∷ []) = ap (λ v. HasFields w z ((l, v) ∷ [])) b.1 in (
          λ p.
              let h : HasFields w z (fields_at τ fs ++ (l, τ r) ∷ []) = subst (HasFields w z) one p.0 in
              let c = (m.same w τ z b.0).0 (has-front w z (fields_at τ fs) ((l, τ r) ∷ []) h, p.1) in
              subst (HasFields w z) (sym two) (has-both w z (fields_at g rs) ((l, g t) ∷ []) c (subst (λ v. HasFields w z ((l, v) ∷ [])) b.1 (has-back w z (fields_at τ fs) ((l, τ r) ∷ []) h))),
          λ p.
              let h : HasFields w z (fields_at g rs ++ (l, g t) ∷ []) = subst (HasFields w z) two p in
              let c = (m.same w τ z b.0).1 (has-front w z (fields_at g rs) ((l, g t) ∷ []) h) in
              (subst (HasFields w z) (sym one) (has-both w z (fields_at τ fs) ((l, τ r) ∷ []) c.0 (subst (λ v. HasFields w z ((l, v) ∷ [])) (sym b.1) (has-back w z (fields_at g rs) ((l, g t) ∷ []) h))), c.1),
        );
    forth = more-forth;
  }

  -- with one that stands already
  pub interns-known : (k : ℕ) (gs : List (Id × ℕ)) (qs : List (Id × O.MlType Name)) (os : List (ℕ × ℕ)) → gs ≡ fs → IsField l k fs → qs ≡ rs ++ (l, t) ∷ [] → os ≡ ps ++ (k, r) ∷ [] → InternsFields ns us qs ms gs os
  interns-known k gs qs os e field f g = rw (e, f, g) record {
    len = let a = m.len in let b = x.len in omega (arith, a, b);
    inside = inside-more (length cs) (length ms) (kids_of fs) x.len m.inside;
    pairs =
        let below = inside-field (length cs) fs l k m.inside field in
        let n = x.len in
        ArePairsIn-append (length ms) ps ((k, r) ∷ []) (pairs-more (length cs) (length ms) ps x.len m.pairs) ((omega (arith, below, n), x.inside), tt);
    sound = x.sound;
    before = λ i h. let n = m.len in x.before i (omega (arith, h, n)) ∙ m.before i h;
    filled = more-filled;
    back = λ w τ k. m.back w τ (x.back w τ k).0;
    same = λ w τ z q.
        let b = x.back w τ q in
        let g : O.MlType Name → In w = typed w (through w us τ) in
        let two : fields_at g (rs ++ (l, t) ∷ []) ≡ fields_at g rs ++ (l, g t) ∷ [] = fields-append g rs ((l, t) ∷ []) in (
          λ p.
              let c = (m.same w τ z b.0).0 (p.0, MeetsPairs-front w ps ((k, r) ∷ []) τ p.1) in
              let e : τ k ≡ τ r = (MeetsPairs-back w ps ((k, r) ∷ []) τ p.1).0 in
              subst (HasFields w z) (sym two) (has-both w z (fields_at g rs) ((l, g t) ∷ []) c (subst (λ v. HasFields w z ((l, v) ∷ [])) b.1 (field-there w τ z fs l k r p.0 field e))),
          λ p.
              let h : HasFields w z (fields_at g rs ++ (l, g t) ∷ []) = subst (HasFields w z) two p in
              let c = (m.same w τ z b.0).1 (has-front w z (fields_at g rs) ((l, g t) ∷ []) h) in
              let d : HasFields w z ((l, τ r) ∷ []) = subst (λ v. HasFields w z ((l, v) ∷ [])) (sym b.1) (has-back w z (fields_at g rs) ((l, g t) ∷ []) h) in
              (c.0, MeetsPairs-append w ps ((k, r) ∷ []) τ c.1 (field-same w τ z fs l k r c.0 field d, tt)),
        );
    forth = more-forth;
  }

-- the next field, as the code reads it

abbrev Entry : Type 0
Entry = Key × Rc MlType Global

demanded-suc : (es : List Entry) (i : ℕ) (d : Entry) → i < length es → take (suc i) (demanded es) ≡ take i (demanded es) ++ (ident_of (get_or es i d).0, type_of (get_or es i d).1.value) ∷ []
demanded-suc [] i d h = absurd (omega (arith, h))
demanded-suc (f ∷ es) zero d h = refl
demanded-suc (f ∷ es) (suc i) d h = ap (λ xs. (ident_of f.0, type_of f.1.value) ∷ xs) (demanded-suc es i d (omega (arith, h)))

same-entry : (es : List Entry) (i : ℕ) (d c : Entry) → i < length es → get_or es i d ≡ get_or es i c
same-entry [] i d c h = absurd (omega (arith, h))
same-entry (f ∷ es) zero d c h = refl
same-entry (f ∷ es) (suc i) d c h = same-entry es i d c (omega (arith, h))

pub demanded-next : (es : List Entry) (i : ℕ) (d c : Entry) (k : Key) (t : MlType) → i < length es → k.value ≡ (get_or es i c).0.value → t ≡ (get_or es i d).1.value → take (i + 1) (demanded es) ≡ take i (demanded es) ++ (ident_of k, type_of t) ∷ []
demanded-next es i d c k t h a b =
    let s : (get_or es i d).0.value ≡ k.value = ap (λ (e : Entry). e.0.value) (same-entry es i d c h) ∙ sym a in
    rw add-one (demanded-suc es i d h ∙ (λ j. take i (demanded es) ++ ((s j).items, type_of (sym b j)) ∷ []))

pub demanded-over : (n : ℕ) (es : List Entry) (i : ℕ) (d : Entry) (t : MlType) → AllByRecursion (λ f. IsOver n f.1) (demanded es) → i < length es → t ≡ (get_or es i d).1.value → IsOver n (type_of t)
demanded-over n [] i d t a h b = absurd (omega (arith, h))
demanded-over n (f ∷ es) zero d t a h b = subst (λ v. IsOver n (type_of v)) (sym b) a.0
demanded-over n (f ∷ es) (suc i) d t a h b = demanded-over n es i d t a.1 (omega (arith, h)) b

-- types of the same unknowns

same-fields : (w : World) (σ τ : Assignment w) (n : ℕ) (rs : List (Id × O.MlType Name)) → ((u : ℕ) → u < n → σ u ≡ τ u) → AllByRecursion (λ f. IsOver n f.1) rs → fields_at (typed w σ) rs ≡ fields_at (typed w τ) rs
same-fields w σ τ n [] e a = refl
same-fields w σ τ n (r ∷ rs) e a = λ j. (r.0, typed-same w σ τ n r.1 e a.0 j) ∷ same-fields w σ τ n rs e a.1 j

pub row-same : (w : World) (σ τ : Assignment w) (n : ℕ) (t : O.MlType Name) (rs : List (Id × O.MlType Name)) → ((u : ℕ) → u < n → σ u ≡ τ u) → IsOver n t → AllByRecursion (λ f. IsOver n f.1) rs → HasFields w (typed w σ t) (fields_at (typed w σ) rs) → HasFields w (typed w τ t) (fields_at (typed w τ) rs)
row-same w σ τ n t rs e o a h = subst (λ z. HasFields w z (fields_at (typed w τ) rs)) (typed-same w σ τ n t e o) (subst (HasFields w (typed w σ t)) (same-fields w σ τ n rs e a) h)

-- a node of a row with the fields, which becomes one with that of the type
module _ (ns hs ks ms : List Node) (us : List ℕ) (t : O.MlType Name) (rs : List (Id × O.MlType Name)) (at r : ℕ) (fs : List (Id × ℕ)) (ps qs : List (ℕ × ℕ))
    (inside : AllByRecursion (λ i. i < length ns) us) (ot : IsOver (length us) t) (os : AllByRecursion (λ f. IsOver (length us) f.1) rs)
    (x : Interns ns us t hs at) (y : InternsFields hs us rs ks fs ps) (z : IsPushed ks fs ms) (place : r ≡ length ks) (pairs : qs ≡ ps ++ (at, r) ∷ []) where
  new-node : Node
  new-node = Open z.row

  below : at < length ks
  below = let a = x.inside in let b = y.len in omega (arith, a, b)

  pub pushed-sound : IsSound ms
  pushed-sound i = rw z.nodes (elim (same_or_not i (length ks)) [
    | inl e ↦ rw (e, node_at-last ks (Open z.row)) (rw z.fields (inside-more (length ks) (length (ks ++ Open z.row ∷ [])) (kids_of fs) (simp length-append (omega arith)) y.inside))
    | inr d ↦ rw (node_at-before ks (Open z.row) i d) (sound-more (length ks) (length (ks ++ Open z.row ∷ [])) i (node_at ks i) (simp length-append (omega arith)) (y.sound i))
  ])

  more : length ms ≡ length ks + 1
  more = ap length z.nodes ∙ simp length-append

  pub pushed-pairs : ArePairsIn (length ms) qs
  pushed-pairs = let a = below in let b = more in rw pairs (ArePairsIn-append (length ms) ps ((at, r) ∷ []) (pairs-more (length ks) (length ms) ps (omega (arith, b)) y.pairs) ((omega (arith, a, b), omega (arith, place, b)), tt))

  pushed-back : (w : World) (τ : Assignment w) → Meets w ms τ → MeetsPairs w qs τ → Meets w ns τ × IsRowWith w us τ t rs × Meets w ks τ × (τ (length ks) ≡ τ at)
  pushed-back w τ m p =
      let n : Meets w (ks ++ Open z.row ∷ []) τ = rw z.nodes at m in
      let k : Meets w ks τ = meets-before w ks (Open z.row) τ n in
      let here : HasFields w (τ (length ks)) (fields_at τ (fields_of z.row.value)) = rw (node_at-last ks (Open z.row)) at (n (length ks)) in
      let has : HasFields w (τ (length ks)) (fields_at τ fs) = rw z.fields at here in
      let q : MeetsPairs w (ps ++ (at, r) ∷ []) τ = rw pairs at p in
      let e : τ at ≡ τ (length ks) = (MeetsPairs-back w ps ((at, r) ∷ []) τ q).0 ∙ ap τ place in
      let row = (y.same w τ (τ (length ks)) k).0 (has, MeetsPairs-front w ps ((at, r) ∷ []) τ q) in
      let b = x.back w τ (y.back w τ k) in
      (b.0, subst (λ v. HasFields w v (fields_at (typed w (through w us τ)) rs)) (sym e ∙ b.1) row, k, sym e)

  pub pushed-forth : (w : World) (τ : Assignment w) → Meets w ns τ → IsRowWith w us τ t rs → (υ : Assignment w) × Meets w ms υ × MeetsPairs w qs υ × ((i : ℕ) → i < length ns → υ i ≡ τ i)
  pushed-forth w τ m row =
      let a = x.forth w τ m in
      let b = y.forth w a.0 a.1 in
      let n1 = x.len in
      let n2 = y.len in
      let υ : Assignment w = beyond w b.0 (length ks) (λ _. b.0 at) in
      let old : (i : ℕ) → i < length ks → υ i ≡ b.0 i = λ i h. beyond-below w b.0 (length ks) (λ _. b.0 at) i h in
      let agree : (i : ℕ) → i < length ns → υ i ≡ τ i = λ i h. old i (omega (arith, h, n1, n2)) ∙ (b.2 i (omega (arith, h, n1)) ∙ a.2 i h) in
      let k : Meets w ks υ = meets-beyond w ks b.0 (length ks) (λ _. b.0 at) (omega arith) y.sound b.1 in
      let new : υ (length ks) ≡ b.0 at = ap υ (let e : length ks ≡ length ks + 0 = omega arith in e) ∙ beyond-above w b.0 (length ks) (λ _. b.0 at) 0 in
      let here : υ at ≡ υ (length ks) = old at below ∙ sym new in
      let c = x.back w υ (y.back w υ k) in
      let same : (u : ℕ) → u < length us → through w us τ u ≡ through w us υ u = λ u h. sym (agree (get_or us u 0) (inside-at (length ns) us u inside h)) in
      let has : IsRowWith w us υ t rs = row-same w (through w us τ) (through w us υ) (length us) t rs same ot os row in
      let f = (y.same w υ (υ (length ks)) k).1 (subst (λ v. HasFields w v (fields_at (typed w (through w us υ)) rs)) (sym c.1 ∙ here) has) in
      let pushed : Meets w (ks ++ Open z.row ∷ []) υ = meets-push w ks (Open z.row) υ k (rw z.fields f.0) in
      (υ, rw z.nodes pushed, rw pairs (MeetsPairs-append w ps ((at, r) ∷ []) υ f.1 (here ∙ ap υ (sym place), tt)), agree)

  pub row-clash : HasNoSolution ms qs → (w : World) (τ : Assignment w) → Meets w ns τ → IsRowWith w us τ t rs → ⊥
  row-clash never w τ m row = let f = pushed-forth w τ m row in never w f.0 f.1 f.2

  module _ (ls : List Node) (js is : List Change) (same : SameSolutions ms qs ls []) (changes : Changes ms js ls is) (begun : js ≡ record { node = r; from = 0 } ∷ []) (len : length ls ≡ length ms) where
    pub asks-row : AsksRow ns us t rs ls
    asks-row = record {
      back = λ w τ m. let a = (same w τ).1 (m, tt) in let b = pushed-back w τ a.0 a.1 in (b.0, b.1);
      forth = λ w τ m row. let f = pushed-forth w τ m row in (f.0, ((same w f.0).0 (f.1, f.2)).0, f.3);
    }

    pub outside : SameOutside ks ls is
    outside i =
        elim (same_or_not i r) [
          | inl e ↦ inr (has-covered (IsChange i (node_at ks i) (node_at ls i)) js is (change-earlier i (node_at ks i) (node_at ls i)) changes.covers (subst (HasChange (IsChange i (node_at ks i) (node_at ls i))) (sym begun) (inl (sym e, inl refl))))
          | inr d ↦
              let old : node_at ms i ≡ node_at ks i = ap (λ n. node_at n i) z.nodes ∙ node_at-before ks (Open z.row) i (λ q. d (q ∙ sym place)) in
              elim (changes.others i) [
                | inl e ↦ inl (e ∙ old)
                | inr m ↦ inr (rw old at m)
              ]
        ]

    pub within : AreInside (length ls) is
    within = let b = more in rw len (changes.inside (rw begun (omega (arith, place, b), tt)))

    pub moved-row : Moves ns ls is
    moved-row =
        let n1 = x.len in
        let n2 = y.len in
        let b = more in
        record {
          len = omega (arith, n1, n2, b, len);
          outside = λ i h.
              let old : node_at ks i ≡ node_at ns i = y.before i (omega (arith, h, n1)) ∙ x.before i h in
              elim (outside i) [
                | inl e ↦ inl (e ∙ old)
                | inr m ↦ inr (rw old at m)
              ];
          inside = within;
          narrows = λ σ m. (asks-row.back finite σ m).0;
        }

    owners-more : (vs ws : List Node) → AreOwners vs us → length vs ≤ length ws → ((i : ℕ) → i < length vs → node_at ws i ≡ node_at vs i) → ((i : ℕ) → length vs ≤ i → i < length ws → IsKnown (node_at ws i)) → AreOwners ws us
    owners-more vs ws o n before filled = record {
      inside = inside-more (length vs) (length ws) us n o.inside;
      rising = o.rising;
      owned = λ i l e.
          elim (cases_lt i (length vs)) [
            | inl b ↦ o.owned i b (λ k. e (rw (before i b) k))
            | inr g ↦ absurd (e (filled i g l))
          ];
      few = o.few;
    }

    pub owners-row : IsSound ls → HasRank ls → AreOwners ns us → AreOwners ls us
    owners-row sound rank o =
        let one = owners-grown ns us t hs at o x in
        let two = owners-more hs ks one y.len y.before y.filled in
        let es : List Node = ks ++ Link at ∷ [] in
        let n : length es ≡ length ks + 1 = simp length-append in
        let b = more in
        let three : AreOwners es us = owners-more ks es two (omega (arith, n)) (λ i h. node_at-before ks (Link at) i (λ e. omega (arith, h, e)))
        (λ i h l. let e : i ≡ length ks = omega (arith, h, l, n) in rw (e, node_at-last ks (Link at)) tt) in
        let s : IsSound es = λ i. elim (same_or_not i (length ks)) [
          | inl e ↦ rw (e, node_at-last ks (Link at)) below
          | inr d ↦ rw (node_at-before ks (Link at) i d) (sound-more (length ks) (length es) i (node_at ks i) (omega (arith, n)) (y.sound i))
        ] in
        owners-merged es ls us three (omega (arith, len, b, n)) s sound rank
        (λ σ m.
        let a = (same finite σ).1 (m, tt) in
        let c = pushed-back finite σ a.0 a.1 in
        meets-push finite ks (Link at) σ c.2 c.3)

-- a graph in which a row was asked for
pub changed-row : (u : ℕ) (k m : Graph) (ls : List Node) (is : List Change) (f : Graph) → IsWhole u k → IsFull m → ((i : ℕ) → limit_at m.limits i ≡ limit_at k.limits i) → ((i : ℕ) → order_at m.orders.items i ≡ order_at k.orders.items i)
    → f.nodes.items ≡ ls → f.limits ≡ m.limits → f.orders.items ≡ m.orders.items → f.bottom ≡ m.bottom → length ls ≡ length m.nodes.items → IsSound ls → AreInside (length ls) is → SameOutside k.nodes.items ls is → IsChanged u f is
changed-row u k m ls is f w full lim ord en el eo eb len sound inside out =
    let closed : IsClosed k.nodes.items m.limits = λ i. closed-as k.limits m.limits i (node_at k.nodes.items i) lim (w.closed i) in
    let fit : (l : Layer) → IsFit l u k.nodes.items m.limits = λ l i. rw (lim i) (w.fit l i) in
    let ordered : AreOrdered k.nodes.items m.orders.items = λ i h. all-parts (λ j. (0 < order_at k.orders.items j) × (order_at k.orders.items j < order_at k.orders.items i)) (λ j. (0 < order_at m.orders.items j) × (order_at m.orders.items j < order_at m.orders.items i)) (parts (node_at k.nodes.items i)) (λ j a. rw (ord j, ord i) a) (w.ordered i (rw (ord i) at h)) in
    record {
      full = record {
        limits = rw (el, en, len) full.limits;
        orders = rw (eo, en, len) full.orders;
        bottom = record { from = rw (eb, eo) full.bottom.from; positive = rw eb full.bottom.positive };
      };
      sound = rw en sound;
      inside = rw en inside;
      before = k.nodes.items;
      rank = w.rank;
      outside = rw en out;
      ordered = rw (en, eo) (changed-ordered k.nodes.items ls m.orders.items is ordered out);
      but = rw (en, el) (changed-but u k.nodes.items ls m.limits is closed fit out);
    }

-- the types that are left
pub stands-row : (u : ℕ) (us : List ℕ) (b : Bool) (t : O.MlType Name) (rs : List (Id × O.MlType Name)) (g m : Graph) → IsFull g → AllByRecursion (λ i. i < length g.nodes.items) us → IsOver (length us) t → AllByRecursion (λ f. IsOver (length us) f.1) rs → AsksRow g.nodes.items us t rs m.nodes.items → ((i : ℕ) → limit_at m.limits i ≡ limit_at g.limits i) → Stands (asked_of u us g b) (has_fields t rs) m
unfolding Permits
stands-row u us b t rs g m full inside ot os x lim = record {
  forth = λ l σ p q.
      let row : IsRowWith (world l) us p.0 t rs = row-same (world l) σ (through (world l) us p.0) (length us) t rs (λ v h. sym (p.3 v h)) ot os q in
      let f = x.forth (world l) p.0 p.1 row in
      (f.0, f.1, upto-as l u g.limits m.limits f.0 lim (upto-agree l u (length g.nodes.items) g.limits p.0 f.0 full.limits f.2 p.2), through-agree (world l) us (length g.nodes.items) p.0 f.0 σ inside f.2 p.3);
  back = λ l υ z k σ e.
      let a = x.back (world l) υ z in
      ((υ, a.0, upto-as l u m.limits g.limits υ (λ i. sym (lim i)) k, e), row-same (world l) (through (world l) us υ) σ (length us) t rs e ot os a.1);
}

-- where no type is such a row
pub row-first : (u : ℕ) (us : List ℕ) (b : Bool) (t : O.MlType Name) (rs : List (Id × O.MlType Name)) (g : Graph) → IsOver (length us) t → AllByRecursion (λ f. IsOver (length us) f.1) rs → ((w : World) (τ : Assignment w) → Meets w g.nodes.items τ → IsRowWith w us τ t rs → ⊥) → IsFirstUnmet Equations (asked_of u us g b) (has_fields t rs)
unfolding IsFirstUnmet CanMeet Permits
row-first u us b t rs g ot os never = (
  λ c. let p = c.1 in never infinite p.0 p.1 (row-same infinite c.0 (through infinite us p.0) (length us) t rs (λ v h. sym (p.3 v h)) ot os c.2),
  λ j h. absurd (omega (arith, h)),
)

pub kept-row : (u : ℕ) (us : List ℕ) (g m f : Graph) → IsKept u g us → Finishes u m f → (HasRank m.nodes.items → AreOwners g.nodes.items us → AreOwners m.nodes.items us) → IsKept u f us
kept-row u us g m f k z o = record { whole = z.whole; owners = rw z.nodes (o (subst HasRank z.nodes z.whole.rank) k.owners) }
