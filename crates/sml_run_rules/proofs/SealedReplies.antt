-- Replies of projects that differ behind seals alone are the same elsewhere.
use Rattle.std.specs.Prelude.{◌≡◌, ◌<◌, ℕ, zero, suc, true, false, List, [], ◌∷◌, ◌++◌, map, Option, Some, None, get_or}
use Rattle.std.proofs.Common.{arith}
use Rattle.std.specs.List.{AllByRecursion}
use mathlib.Core.Path.{refl, sym, ap, subst, ◌∙◌}
use Rattle.sml_lex.specs.declared.fault.Place.{Place}
use Rattle.sml_lex.specs.Faults.{Fault, first_place}
use Rattle.sml_tree.specs.Structures.{TopDec}
use Rattle.sml_objects.specs.Alike.{Renaming}
use Rattle.sml_objects.specs.Initial.{Name, naming}
use Rattle.sml_core_rules.specs.Initial.{initial_basis}
use Rattle.sml_core_rules.specs.Objects.{Basis, extend, rename_env, replace, replace_structures}
use Rattle.sml_module_rules.specs.Structures.{nothing, add_basis}
use Rattle.sml_module_rules.specs.Programs.{basis_after}
use Rattle.sml_module_rules.specs.Projects.{Exports, after_all, exported, with_needs, beginning, and_unit}
use Rattle.sml_module_rules.specs.Runs.{at_first}
use Rattle.sml_module_rules.specs.Statements.{rename_added}
use Rattle.sml_places.specs.Units.{Placed, AllAgree, UnitsAgree, IsRenamed, AreRenamed, UnitsAreRenamed, Given}
use Rattle.sml_places.proofs.Differing.{alike-units}
use Rattle.sml_projects.specs.Orders.{UnitText}
use Rattle.sml_reply.specs.Replies.{warnings_of, accepts}
use Rattle.sml_reply.specs.declared.form.Form.{Form}
use Rattle.sml_reply.specs.declared.reply.Reply.{Reply}
use Rattle.sml_run_rules.specs.Sources.{Source, AreSourcesOf, unit_of}
use Rattle.sml_run_rules.specs.Runs.{judged_in, IsReplyTo, AreRepliesTo, with_last, UnitReplies, AreUnitReplies}
use Rattle.sml_run_rules.specs.Warnings.{AreWarnings}
use Rattle.sml_run_rules.specs.Likeness.{AreSourcesAlike}
use Rattle.sml_run_rules.specs.Seals.{AgreeAtSeals, AllAgreeAtSeals, AreSameBytes, AreSameLines, AreEqualReplies, AllHaveEqualReplies, SealsIsolate}
use Rattle.sml_run_rules.proofs.MovedBodies.{sum-moved, initial-kept}
use Rattle.sml_run_rules.proofs.OneWarnings.{warnings-are-one}
use Rattle.sml_run_rules.proofs.SameTexts.{plain, judged-renamed, some-accepted, text_of, unwarned-text, same-text, both-accepted, after-moved}
use Rattle.sml_run_rules.proofs.Units.{sources-make-units}

abbrev placed : TopDec Place → Placed
placed d = (first_place, d)

-- an answer before a last fault
more : (o : Given) (os : List Given) (l : Option (Fault Place)) → with_last (o ∷ os) l ≡ o ∷ with_last os l
more o os None = refl
more o os (Some x) = refl

abbrev Replied : ℕ → Basis Name → List Given → Option (Fault Place) → List Reply → Type 0
Replied k B os l rs = AreRepliesTo k B (with_last os l) rs

split : (k : ℕ) (B : Basis Name) (o : Given) (os : List Given) (l : Option (Fault Place)) (rs : List Reply) → Replied k B (o ∷ os) l rs
    → AreRepliesTo k B (o ∷ with_last os l) rs
split k B o os l rs h = subst (λ a. AreRepliesTo k B a rs) (more o os l) h

-- what is asked of replies holds of the answers

answers-agree : (ds es : List (TopDec Place)) (k j : ℕ) (B C : Basis Name) (l m : Option (Fault Place)) (os qs : List Given) (rs ss : List Reply) → AreRepliesTo k B (with_last os l) rs
    → AreRepliesTo j C (with_last qs m) ss → AgreeAtSeals ds es rs ss → AllAgree (map placed ds) (map placed es) os qs
answers-agree [] es k j B C l m os qs rs ss a b h = tt
answers-agree (d ∷ ds) [] k j B C l m os qs rs ss a b h = tt
answers-agree (d ∷ ds) (e ∷ es) k j B C l m [] qs rs ss a b h = tt
answers-agree (d ∷ ds) (e ∷ es) k j B C l m (o ∷ os) [] rs ss a b h = tt
answers-agree (d ∷ ds) (e ∷ es) k j B C l m (o ∷ os) (q ∷ qs) [] ss a b h = absurd (split k B o os l [] a)
answers-agree (d ∷ ds) (e ∷ es) k j B C l m (o ∷ os) (q ∷ qs) (r ∷ rs) [] a b h = absurd (split j C q qs m [] b)
answers-agree (d ∷ ds) (e ∷ es) k j B C l m (o ∷ os) (q ∷ qs) (r ∷ rs) (s ∷ ss) a b h =
    let x = split k B o os l (r ∷ rs) a in
    let y = split j C q qs m (s ∷ ss) b in (
      (λ differ. some-accepted o ∙ (sym x.0.accepting ∙ (h.0 (λ p. differ (λ i. (first_place, p i))) ∙ (y.0.accepting ∙ sym (some-accepted q))))),
      answers-agree ds es (suc k) (suc j) (basis_after B o) (basis_after C q) l m os qs rs ss x.1 y.1 h.1,
    )

units-agree : (us ws : List Source) (E F : Exports Name) (oss qss : List (List Given)) (rs ss : List UnitReplies) → AreUnitReplies E us oss rs → AreUnitReplies F ws qss ss
    → AllAgreeAtSeals us ws rs ss → UnitsAgree (map unit_of us) (map unit_of ws) oss qss
units-agree [] ws E F oss qss rs ss a b h = tt
units-agree (u ∷ us) [] E F oss qss rs ss a b h = tt
units-agree (u ∷ us) (w ∷ ws) E F [] qss rs ss a b h = tt
units-agree (u ∷ us) (w ∷ ws) E F (os ∷ oss) [] rs ss a b h = tt
units-agree (u ∷ us) (w ∷ ws) E F (os ∷ oss) (qs ∷ qss) [] ss a b h = absurd a
units-agree (u ∷ us) (w ∷ ws) E F (os ∷ oss) (qs ∷ qss) (r ∷ rs) [] a b h = absurd b
units-agree (u ∷ us) (w ∷ ws) E F (os ∷ oss) (qs ∷ qss) (r ∷ rs) (s ∷ ss) a b h = (
  answers-agree u.declarations w.declarations 1 1 (beginning initial_basis E u.needs) (beginning initial_basis F w.needs) u.last w.last os qs r.replies s.replies a.0.1 b.0.1 h.0,
  units-agree us ws (and_unit E (exported os)) (and_unit F (exported qs)) oss qss rs ss a.1 b.1 h.1,
)

numbered : (us : List UnitText) (ss : List Source) → AreSourcesOf us ss → AllByRecursion (λ u. 0 < u.number) (map unit_of ss)
numbered us [] h = tt
numbered [] (s ∷ ss) h = absurd h
numbered (u ∷ us) (s ∷ ss) h = (let e = h.0.number_is in omega (arith, e), numbered us ss h.1)

module _ (f : Renaming naming) where
  -- a basis whose body is that of another, renamed
  abbrev IsMoved : Basis Name → Basis Name → Type 0
  IsMoved B C = C.body ≡ rename_env f.to B.body

  abbrev AreMoved : List (Basis Name) → List (Basis Name) → Type 0
  AreMoved [] [] = Unit {0}
  AreMoved [] (C ∷ Cs) = ⊥
  AreMoved (B ∷ Bs) [] = ⊥
  AreMoved (B ∷ Bs) (C ∷ Cs) = IsMoved B C × AreMoved Bs Cs

  -- what units begin with and export

  nothing-moved : IsMoved nothing nothing
  unfolding replace replace_structures
  nothing-moved = refl

  one-moved : (Bs Cs : List (Basis Name)) → AreMoved Bs Cs → (k : ℕ) → IsMoved (get_or Bs k nothing) (get_or Cs k nothing)
  one-moved [] [] h k = nothing-moved
  one-moved [] (C ∷ Cs) h k = absurd h
  one-moved (B ∷ Bs) [] h k = absurd h
  one-moved (B ∷ Bs) (C ∷ Cs) h zero = h.0
  one-moved (B ∷ Bs) (C ∷ Cs) h (suc k) = one-moved Bs Cs h.1 k

  sum-kept : (B C A D : Basis Name) → IsMoved B C → IsMoved A D → IsMoved (add_basis B A) (add_basis C D)
  sum-kept B C A D e g = (λ i. extend (e i) (g i)) ∙ sym (sum-moved f B.body A.body)

  needs-moved : (ks : List ℕ) (Bs Cs : List (Basis Name)) → AreMoved Bs Cs → (B C : Basis Name) → IsMoved B C → IsMoved (with_needs B Bs ks) (with_needs C Cs ks)
  needs-moved [] Bs Cs h B C e = e
  needs-moved (k ∷ ks) Bs Cs h B C e =
      let A = get_or Bs k nothing in
      let D = get_or Cs k nothing in
      needs-moved ks Bs Cs h (add_basis B A) (add_basis C D) (sum-kept B C A D e (one-moved Bs Cs h k))

  and-moved : (Bs Cs : List (Basis Name)) → AreMoved Bs Cs → (B C : Basis Name) → IsMoved B C → AreMoved (Bs ++ B ∷ []) (Cs ++ C ∷ [])
  and-moved [] [] h B C e = (e, tt)
  and-moved [] (D ∷ Cs) h B C e = absurd h
  and-moved (A ∷ Bs) [] h B C e = absurd h
  and-moved (A ∷ Bs) (D ∷ Cs) h B C e = (h.0, and-moved Bs Cs h.1 B C e)

  exported-moved : (ds es : List Placed) (os qs : List Given) → AreRenamed f.to ds es os qs → (B C : Basis Name) → IsMoved B C → IsMoved (after_all B os) (after_all C qs)
  exported-moved [] [] [] [] h B C e = e
  exported-moved [] [] [] (q ∷ qs) h B C e = absurd h
  exported-moved [] [] (o ∷ os) qs h B C e = absurd h
  exported-moved [] (x ∷ es) os qs h B C e = absurd h
  exported-moved (d ∷ ds) [] os qs h B C e = absurd h
  exported-moved (d ∷ ds) (x ∷ es) [] qs h B C e = absurd h
  exported-moved (d ∷ ds) (x ∷ es) (o ∷ os) [] h B C e = absurd h
  exported-moved (d ∷ ds) (x ∷ es) (o ∷ os) (q ∷ qs) h B C e = exported-moved ds es os qs h.1 (basis_after B o) (basis_after C q) (after-moved f B C e o q h.0.1)

  -- two replies

  reply-same : (k : ℕ) (B C : Basis Name) → IsMoved B C → (d e : TopDec Place) (o q : Given) → IsRenamed f.to (placed d) (placed e) o q
      → (r s : Reply) → IsReplyTo k B o r → IsReplyTo k C q s → (d ≡ e → AreSameBytes r s) × (accepts r ≡ true → accepts s ≡ true → AreSameLines r s)
  reply-same k B C h d e o q n r s a b = (
    λ same. bytes (n.0 (λ i. (first_place, same i))),
    λ x y. lines (both-accepted f o q (some-accepted o ∙ (sym a.accepting ∙ x)) n.1 (some-accepted q ∙ (sym b.accepting ∙ y))),
  )
    where
      bytes : q ≡ rename_added f.to o → AreSameBytes r s
      bytes g form =
          let judged : judged_in q ≡ judged_in o = ap (λ q. judged_in q) g ∙ judged-renamed f.to o in
          let ws = warnings-are-one (judged_in o) (warnings_of r) (warnings_of s) a.warned (subst (λ js. AreWarnings js (warnings_of s)) judged b.warned) in
          a.printed form ∙ (ap (λ ws. text_of form.version B form.warnings k o ws) ws ∙ (sym (same-text f form.version B C h form.warnings k o q g (warnings_of s)) ∙ sym (b.printed form)))

      lines : plain q ≡ rename_added f.to (plain o) → AreSameLines r s
      lines g version =
          let form : Form = record { version = version; warnings = false } in
          a.printed form ∙ (unwarned-text version B k o (warnings_of r) []
          ∙ (sym (same-text f version B C h false k (plain o) (plain q) g []) ∙ (sym (unwarned-text version C k q (warnings_of s) []) ∙ sym (b.printed form))))

  last-same : (k : ℕ) (B C : Basis Name) (l : Option (Fault Place)) (rs ss : List Reply) → AreRepliesTo k B (with_last [] l) rs → AreRepliesTo k C (with_last [] l) ss
      → AreEqualReplies [] [] rs ss
  last-same k B C None [] [] a b = tt
  last-same k B C None [] (s ∷ ss) a b = absurd b
  last-same k B C None (r ∷ rs) ss a b = absurd a
  last-same k B C (Some x) [] ss a b = absurd a
  last-same k B C (Some x) (r ∷ rs) [] a b = absurd b
  last-same k B C (Some x) (r ∷ []) (s ∷ []) a b = ((λ form. a.0.printed form ∙ sym (b.0.printed form)), tt)
  last-same k B C (Some x) (r ∷ []) (s ∷ t ∷ ss) a b = absurd b.1
  last-same k B C (Some x) (r ∷ t ∷ rs) (s ∷ ss) a b = absurd a.1

  replies-same : (ds es : List (TopDec Place)) (l : Option (Fault Place)) (k : ℕ) (B C : Basis Name) → IsMoved B C → (os qs : List Given)
      → AreRenamed f.to (map placed ds) (map placed es) os qs → (rs ss : List Reply) → AreRepliesTo k B (with_last os l) rs
      → AreRepliesTo k C (with_last qs l) ss → AreEqualReplies ds es rs ss
  replies-same [] [] l k B C h [] [] n rs ss a b = last-same k B C l rs ss a b
  replies-same [] [] l k B C h [] (q ∷ qs) n rs ss a b = absurd n
  replies-same [] [] l k B C h (o ∷ os) qs n rs ss a b = absurd n
  replies-same [] (e ∷ es) l k B C h os qs n rs ss a b = absurd n
  replies-same (d ∷ ds) [] l k B C h os qs n rs ss a b = absurd n
  replies-same (d ∷ ds) (e ∷ es) l k B C h [] qs n rs ss a b = absurd n
  replies-same (d ∷ ds) (e ∷ es) l k B C h (o ∷ os) [] n rs ss a b = absurd n
  replies-same (d ∷ ds) (e ∷ es) l k B C h (o ∷ os) (q ∷ qs) n [] ss a b = absurd (split k B o os l [] a)
  replies-same (d ∷ ds) (e ∷ es) l k B C h (o ∷ os) (q ∷ qs) n (r ∷ rs) [] a b = absurd (split k C q qs l [] b)
  replies-same (d ∷ ds) (e ∷ es) l k B C h (o ∷ os) (q ∷ qs) n (r ∷ rs) (s ∷ ss) a b =
      let x = split k B o os l (r ∷ rs) a in
      let y = split k C q qs l (s ∷ ss) b in (
        reply-same k B C h d e o q n.0 r s x.0 y.0,
        replies-same ds es l (suc k) (basis_after B o) (basis_after C q) (after-moved f B C h o q n.0.1) os qs n.1 rs ss x.1 y.1,
      )

  units-same : (us ws : List Source) → AreSourcesAlike us ws → (E F : Exports Name) → AreMoved E.units F.units → (oss qss : List (List Given))
      → UnitsAreRenamed f.to (map unit_of us) (map unit_of ws) oss qss → (rs ss : List UnitReplies) → AreUnitReplies E us oss rs
      → AreUnitReplies F ws qss ss → AllHaveEqualReplies us ws rs ss
  units-same [] [] alike E F h [] [] n [] [] a b = tt
  units-same [] [] alike E F h [] [] n [] (s ∷ ss) a b = absurd b
  units-same [] [] alike E F h [] [] n (r ∷ rs) ss a b = absurd a
  units-same [] [] alike E F h [] (qs ∷ qss) n rs ss a b = absurd n
  units-same [] [] alike E F h (os ∷ oss) qss n rs ss a b = absurd n
  units-same [] (w ∷ ws) alike E F h oss qss n rs ss a b = absurd alike
  units-same (u ∷ us) [] alike E F h oss qss n rs ss a b = absurd alike
  units-same (u ∷ us) (w ∷ ws) alike E F h [] qss n rs ss a b = absurd n
  units-same (u ∷ us) (w ∷ ws) alike E F h (os ∷ oss) [] n rs ss a b = absurd n
  units-same (u ∷ us) (w ∷ ws) alike E F h (os ∷ oss) (qs ∷ qss) n [] ss a b = absurd a
  units-same (u ∷ us) (w ∷ ws) alike E F h (os ∷ oss) (qs ∷ qss) n (r ∷ rs) [] a b = absurd b
  units-same (u ∷ us) (w ∷ ws) alike E F h (os ∷ oss) (qs ∷ qss) n (r ∷ rs) (s ∷ ss) a b =
      let B = beginning initial_basis E u.needs in
      let C = beginning initial_basis F u.needs in
      let e : IsMoved B C = needs-moved u.needs E.units F.units h initial_basis initial_basis (sym (initial-kept f)) in
      let y : AreRepliesTo 1 C (with_last qs u.last) s.replies =
      subst (λ l. AreRepliesTo 1 C (with_last qs l) s.replies) (sym alike.0.3) (subst (λ ks. AreRepliesTo 1 (beginning initial_basis F ks) (with_last qs w.last) s.replies) (sym alike.0.2) b.0.1) in
      let more = exported-moved (map placed u.declarations) (map placed w.declarations) os qs n.0 nothing nothing nothing-moved in (
        (a.0.0 ∙ (alike.0.0 ∙ sym b.0.0), replies-same u.declarations w.declarations u.last 1 B C e os qs n.0 r.replies s.replies a.0.1 y),
        units-same us ws alike.1 (and_unit E (exported os)) (and_unit F (exported qs))
            (and-moved E.units F.units h (exported os) (exported qs) more) oss qss n.1 rs ss a.1 b.1,
      )

pub seals-isolate : SealsIsolate
seals-isolate us ws rs ss h k alike agree =
    let n =
    alike-units (map unit_of h.sources) (map unit_of k.sources) (numbered us h.sources h.sources_are) (sources-make-units h.sources k.sources alike) h.answers k.answers h.run k.run
    (units-agree h.sources k.sources at_first at_first h.answers k.answers rs ss h.replies k.replies agree) in
    units-same n.0 h.sources k.sources alike at_first at_first tt h.answers k.answers n.1 rs ss h.replies k.replies
