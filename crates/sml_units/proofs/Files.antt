-- Projects whose files are alike outside sealed bodies, and their replies.
use Rattle.std.proofs.Common.{◌≡◌, ◌↔◌, ℕ, zero, suc, ◌+◌, Bool, true, false, cond, ◌&&◌, arith, length, List, [], ◌∷◌, ◌++◌, Option, Some, None, refl, sym, ap, ◌∙◌, subst, append-nil}
use Rattle.std.specs.Prelude.{◌==◌}
use Rattle.std.proofs.lemmas.Bool.Decides.{nat_tests}
use Rattle.std.specs.List.{list_all}
use Rattle.std.specs.Option.{option_to_list}
use Rattle.std.specs.String.{string_bytes}
use Rattle.std.proofs.lemmas.Bool.{and_parts}
use Rattle.std.proofs.lemmas.List.{length-append}
use Rattle.sml_lex.specs.declared.fault.Place.{Place}
use Rattle.sml_lex.specs.Faults.{Fault}
use Rattle.sml_tree.specs.Trees.{Dec}
use Rattle.sml_objects.specs.Objects.{Sig, Basis}
use Rattle.sml_objects.specs.Initial.{Name, naming, initial_basis}
use Rattle.sml_rules.specs.Answers.{Answer, refused, accepted}
use Rattle.sml_parse.proofs.OneList.{trees_one}
use Rattle.sml_reply.specs.Replies.{reply_text, version_text, warnings_text, warnings_of, accepts}
use Rattle.sml_reply.specs.declared.form.Version.TheVariants.{One}
use Rattle.sml_texts.specs.Text.{text}
use Rattle.sml_reply.specs.declared.reply.Reply.{Reply}
use Rattle.sml_reply.specs.declared.reply.Reply.TheVariants.{Accepted, Refused}
use Rattle.sml_rules.specs.Readings.{is_specified}
use Rattle.sml_units.specs.Runs.{SourceUnit, Run, RunProject, basis_after, start, exports, nothing, AllSpecified, specified_beginning, flag_at, is_whole, specified_unit, specified_from}
use Rattle.sml_units.specs.Checked.{Answered, AreSpelt, IsReplyTo, AreRepliesTo, with_last, is_acceptance, IsSourceOf, AreSourcesOf, BeginWith, AreReplies, AreUnitReplies, MayReply}
use Rattle.sml_units.specs.Isolation.{AlikeOutsideSeals, ProjectsAlike, IsAccepted, AgreeAtSeals, ProjectsAgree, EqualReplies, ProjectsReplyEqually, SealsIsolate}
use Rattle.sml_projects.specs.Orders.{UnitText, unit_texts}
use Rattle.sml_units.specs.Files.{Pair, FilesAlike, AgreeOnSeals, AllAgreeOnSeals, AreSameBytes, AreEqualReplies, AllHaveEqualReplies}
use Rattle.sml_units.proofs.Replying.{beginning_all, run_length}
use Rattle.sml_projects.specs.declared.project.Project.{Project}
use Rattle.sml_units.specs.declared.project.Replies.{Replies}
use Rattle.sml_units.specs.declared.project.UnitReplies.{UnitReplies}

-- bytes spell one list of declarations and one last fault
spelt_one : (bytes : List ℕ) (ds es : List (Dec Place)) (last other : Option (Fault Place)) → AreSpelt bytes ds last → AreSpelt bytes es other → (ds ≡ es) × (last ≡ other)
spelt_one bytes ds es last other h k =
    let one = trees_one bytes h.tokens k.tokens h.end k.end h.tops k.tops ds es last other h.tokens_spelt k.tokens_spelt h.trees k.trees in
    (one.1, one.2)

-- the sources of two projects, as pairs tell them
abbrev Told : List Pair → List SourceUnit → List SourceUnit → Type 0
Told [] [] [] = Unit {0}
Told (x ∷ xs) (s ∷ ss) (t ∷ ts) =
    ((s.label ≡ t.label) × (s.maker ≡ t.maker) × (s.needs ≡ t.needs) × (s.declarations ≡ x.declarations) × (t.declarations ≡ x.others) × (s.last ≡ x.last) × (t.last ≡ x.last)
    × AlikeOutsideSeals x.declarations x.others) × Told xs ss ts
Told xs ss ts = ⊥

told : (us ws : List UnitText) (xs : List Pair) (ss ts : List SourceUnit) → FilesAlike us ws xs → AreSourcesOf us ss → AreSourcesOf ws ts → Told xs ss ts
told [] [] [] [] [] f h k = tt
told [] [] [] [] (t ∷ ts) f h k = absurd k
told [] [] [] (s ∷ ss) ts f h k = absurd h
told [] [] (x ∷ xs) ss ts f h k = absurd f
told [] (w ∷ ws) xs ss ts f h k = absurd f
told (u ∷ us) [] xs ss ts f h k = absurd f
told (u ∷ us) (w ∷ ws) [] ss ts f h k = absurd f
told (u ∷ us) (w ∷ ws) (x ∷ xs) [] ts f h k = absurd h
told (u ∷ us) (w ∷ ws) (x ∷ xs) (s ∷ ss) [] f h k = absurd k
told (u ∷ us) (w ∷ ws) (x ∷ xs) (s ∷ ss) (t ∷ ts) f h k =
    let a = h.0 in
    let b = k.0 in
    let alike = f.0.3 in
    let one = spelt_one u.text s.declarations x.declarations s.last x.last a.spelt alike.spelt in
    let other = spelt_one w.text t.declarations x.others t.last x.last b.spelt alike.others_spelt in (
      (a.label_is ∙ f.0.0 ∙ sym b.label_is, a.maker_is ∙ ap suc f.0.1 ∙ sym b.maker_is, a.needs_are ∙ f.0.2 ∙ sym b.needs_are, one.0, other.0, one.1, other.1, alike.alike),
      told us ws xs ss ts f.1 h.1 k.1,
    )

alike_by : (xs : List Pair) (ss ts : List SourceUnit) → Told xs ss ts → ProjectsAlike ss ts
unfolding ProjectsAlike
alike_by [] [] [] h = tt
alike_by [] [] (t ∷ ts) h = absurd h
alike_by [] (s ∷ ss) ts h = absurd h
alike_by (x ∷ xs) [] ts h = absurd h
alike_by (x ∷ xs) (s ∷ ss) [] h = absurd h
alike_by (x ∷ xs) (s ∷ ss) (t ∷ ts) h =
    let a = h.0 in
    ((a.0, a.1, a.2, a.5 ∙ sym a.6, subst (λ es. AlikeOutsideSeals s.declarations es) (sym a.4) (subst (λ ds. AlikeOutsideSeals ds x.others) (sym a.3) a.7)), alike_by xs ss ts h.1)

-- what is specified of units that are all specified

flags_on : (flags : List Bool) (k : ℕ) → list_all (λ b. b) flags ≡ true → flag_at flags k ≡ true
flags_on [] k h = refl
flags_on (b ∷ bs) zero h = (and_parts b (list_all (λ b. b) bs) h).0
flags_on (b ∷ bs) (suc k) h = flags_on bs k (and_parts b (list_all (λ b. b) bs) h).1

needs_on : (flags : List Bool) (ks : List ℕ) → list_all (λ b. b) flags ≡ true → list_all (flag_at flags) ks ≡ true
needs_on flags [] h = refl
needs_on flags (k ∷ ks) h = λ i. flags_on flags k h i && needs_on flags ks h i

flags_more : (flags : List Bool) (b : Bool) → list_all (λ b. b) flags ≡ true → b ≡ true → list_all (λ b. b) (flags ++ b ∷ []) ≡ true
flags_more [] b h e = λ i. e i && true
flags_more (c ∷ cs) b h e = let p = and_parts c (list_all (λ b. b) cs) h in λ i. p.0 i && flags_more cs b p.1 e i

same_number : (a b : ℕ) → a ≡ b → (a == b) ≡ true
same_number a b e = search (arith, nat_tests)

whole_on : (flags : List Bool) (u : SourceUnit) → list_all (λ b. b) flags ≡ true → (list_all is_specified u.declarations ≡ true) × (length u.declarations ≡ u.number) → is_whole flags u ≡ true
whole_on flags u h a = λ i. needs_on flags u.needs h i && (a.0 i && same_number (length u.declarations) u.number a.1 i)

unit_on : (flags : List Bool) (u : SourceUnit) → list_all (λ b. b) flags ≡ true → (list_all is_specified u.declarations ≡ true) × (length u.declarations ≡ u.number) → specified_unit flags u ≡ u
unit_on flags u h a =
    let ds : cond (list_all (flag_at flags) u.needs) (specified_beginning u.declarations) [] ≡ u.declarations =
    (λ i. cond (needs_on flags u.needs h i) (specified_beginning u.declarations) []) ∙ beginning_all u.declarations a.0 in
    let last : cond (is_whole flags u) u.last None ≡ u.last = λ i. cond (whole_on flags u h a i) u.last None in
    λ i. record { label = u.label; maker = u.maker; needs = u.needs; number = u.number; declarations = ds i; last = last i }

units_on : (flags : List Bool) (us : List SourceUnit) → list_all (λ b. b) flags ≡ true → AllSpecified us → specified_from flags us ≡ us
units_on flags [] h a = refl
units_on flags (u ∷ us) h a = λ i. unit_on flags u h a.0 i ∷ units_on (flags ++ is_whole flags u ∷ []) us (flags_more flags (is_whole flags u) h (whole_on flags u h a.0)) a.1 i

-- all replies are those to the answers
abbrev Replied : List SourceUnit → List (List Answered) → List UnitReplies → Type 0
Replied [] [] [] = Unit {0}
Replied (s ∷ ss) (os ∷ oss) (r ∷ rs) = ((string_bytes r.name ≡ s.label) × AreRepliesTo 1 (with_last os s.last) r.replies.items) × Replied ss oss rs
Replied ss oss rs = ⊥

exactly : (k : ℕ) (os : List Answered) (rs : List Reply) → BeginWith k os rs → length rs ≡ length os → AreRepliesTo k os rs
exactly k [] [] h e = tt
exactly k [] (r ∷ rs) h e = absurd (omega (arith, e))
exactly k (o ∷ os) [] h e = absurd h
exactly k (o ∷ os) (r ∷ rs) h e = (h.0, exactly (suc k) os rs h.1 (omega (arith, e)))

with_last_length : (os : List Answered) (last : Option (Fault Place)) → length (with_last os last) ≡ length os + length (option_to_list last)
with_last_length os None = omega arith
with_last_length os (Some f) = length-append os (refused f ∷ [])

replied : (Ss : List (Sig Name)) (ss : List SourceUnit) (oss : List (List Answered)) (rs : List UnitReplies) → AllSpecified ss → RunProject naming initial_basis Ss ss oss
    → AreUnitReplies ss ss oss rs → Replied ss oss rs
unfolding RunProject
replied Ss [] [] [] a r m = tt
replied Ss [] [] (x ∷ rs) a r m = absurd m
replied Ss [] (os ∷ oss) rs a r m = absurd r
replied Ss (s ∷ ss) [] rs a r m = absurd r
replied Ss (s ∷ ss) (os ∷ oss) [] a r m = absurd m
replied Ss (s ∷ ss) (os ∷ oss) (x ∷ rs) a r m =
    let run = run_length s.maker (start initial_basis Ss s.needs) s.declarations os r.0 in
    let all = a.0.1 in
    let number = m.0.1.number in
    let wide = with_last_length os s.last in
    ((m.0.0, exactly 1 (with_last os s.last) x.replies.items m.0.1.begun (omega (arith, run, all, number, wide))), replied (Ss ++ exports nothing os ∷ []) ss oss rs a.1 r.1 m.1)

-- answers and replies

to_accepted : (o : Answered) → is_acceptance o ≡ true → IsAccepted o
unfolding IsAccepted
to_accepted (refused f) h = cc
to_accepted (accepted S) h = tt

from_accepted : (o : Answered) → IsAccepted o → is_acceptance o ≡ true
unfolding IsAccepted
from_accepted (refused f) h = absurd h
from_accepted (accepted S) h = refl

both_accepted : (o q : Answered) → is_acceptance o ≡ is_acceptance q → IsAccepted o ↔ IsAccepted q
both_accepted o q e = (
  (λ h. to_accepted q (sym e ∙ from_accepted o h)),
  (λ h. to_accepted o (e ∙ from_accepted q h)),
)

last_after : (o : Answered) (os : List Answered) (last : Option (Fault Place)) → with_last (o ∷ os) last ≡ o ∷ with_last os last
last_after o os None = refl
last_after o os (Some f) = refl

agree_by : (k : ℕ) (ds es : List (Dec Place)) (os qs : List Answered) (last other : Option (Fault Place)) (rs ps : List Reply) → AreRepliesTo k (with_last os last) rs → AreRepliesTo k (with_last qs other) ps
    → AgreeOnSeals ds es rs ps → AgreeAtSeals ds es os qs
unfolding AgreeAtSeals
agree_by k [] es os qs last other rs ps h g a = tt
agree_by k (d ∷ ds) [] os qs last other rs ps h g a = tt
agree_by k (d ∷ ds) (e ∷ es) [] qs last other rs ps h g a = tt
agree_by k (d ∷ ds) (e ∷ es) (o ∷ os) [] last other rs ps h g a = tt
agree_by k (d ∷ ds) (e ∷ es) (o ∷ os) (q ∷ qs) last other [] ps h g a =
    absurd (subst (λ xs. AreRepliesTo k xs []) (last_after o os last) h)
agree_by k (d ∷ ds) (e ∷ es) (o ∷ os) (q ∷ qs) last other (r ∷ rs) [] h g a =
    absurd (subst (λ xs. AreRepliesTo k xs []) (last_after q qs other) g)
agree_by k (d ∷ ds) (e ∷ es) (o ∷ os) (q ∷ qs) last other (r ∷ rs) (p ∷ ps) h g a =
    let x = subst (λ xs. AreRepliesTo k xs (r ∷ rs)) (last_after o os last) h in
    let y = subst (λ xs. AreRepliesTo k xs (p ∷ ps)) (last_after q qs other) g in
    ((λ differ. both_accepted o q (sym x.0.accepting ∙ a.0 differ ∙ y.0.accepting)), agree_by (suc k) ds es os qs last other rs ps x.1 y.1 a.1)

all_agree : (xs : List Pair) (ss ts : List SourceUnit) (oss qss : List (List Answered)) (rs ps : List UnitReplies) → Told xs ss ts → Replied ss oss rs → Replied ts qss ps
    → AllAgreeOnSeals xs rs ps → ProjectsAgree ss ts oss qss
unfolding ProjectsAgree
all_agree xs [] ts oss qss rs ps h m n a = tt
all_agree xs (s ∷ ss) [] oss qss rs ps h m n a = tt
all_agree xs (s ∷ ss) (t ∷ ts) [] qss rs ps h m n a = tt
all_agree xs (s ∷ ss) (t ∷ ts) (os ∷ oss) [] rs ps h m n a = tt
all_agree [] (s ∷ ss) (t ∷ ts) (os ∷ oss) (qs ∷ qss) rs ps h m n a = absurd h
all_agree (x ∷ xs) (s ∷ ss) (t ∷ ts) (os ∷ oss) (qs ∷ qss) [] ps h m n a = absurd m
all_agree (x ∷ xs) (s ∷ ss) (t ∷ ts) (os ∷ oss) (qs ∷ qss) (r ∷ rs) [] h m n a = absurd n
all_agree (x ∷ xs) (s ∷ ss) (t ∷ ts) (os ∷ oss) (qs ∷ qss) (r ∷ rs) (p ∷ ps) h m n a =
    let given = subst (λ es. AgreeOnSeals s.declarations es r.replies.items p.replies.items) (sym h.0.4) (subst (λ ds. AgreeOnSeals ds x.others r.replies.items p.replies.items) (sym h.0.3) a.0) in
    (agree_by 1 s.declarations t.declarations os qs s.last t.last r.replies.items p.replies.items m.0.1 n.0.1 given, all_agree xs ss ts oss qss rs ps h.1 m.1 n.1 a.1)

-- without warnings a reply is the same whether they are asked for or not
unasked : (r : Reply) (asked : Bool) → warnings_of r ≡ [] → reply_text r asked ≡ reply_text r false
unfolding reply_text
unasked (Accepted r) true h = ap (λ ws. version_text r One ++ warnings_text ws) h
unasked (Accepted r) false h = refl
unasked (Refused r) asked h = refl

same_bytes : (k : ℕ) (o q : Answered) (r p : Reply) → IsReplyTo k o r → IsReplyTo k q p → text naming k o ≡ text naming k q → AreSameBytes r p
same_bytes k o q r p h g e = λ asked. unasked r asked h.unwarned ∙ h.printed ∙ e ∙ sym g.printed ∙ sym (unasked p asked g.unwarned)

-- as many answers as declarations
abbrev Fits : List (Dec Place) → List Answered → Type 0
Fits [] [] = Unit {0}
Fits [] (o ∷ os) = ⊥
Fits (d ∷ ds) [] = ⊥
Fits (d ∷ ds) (o ∷ os) = Fits ds os

run_fits : (unit : ℕ) (B : Basis Name) (ds : List (Dec Place)) (os : List Answered) → Run naming unit B ds os → Fits ds os
unfolding Run
run_fits unit B [] [] h = tt
run_fits unit B [] (o ∷ os) h = absurd h
run_fits unit B (d ∷ ds) [] h = absurd h
run_fits unit B (d ∷ ds) (o ∷ os) h = run_fits unit (basis_after B o) ds os h.1

equal_by : (k : ℕ) (ds es : List (Dec Place)) (os qs : List Answered) (last : Option (Fault Place)) (rs ps : List Reply) → AlikeOutsideSeals ds es → Fits ds os → Fits es qs
    → EqualReplies naming naming k ds es os qs → AreRepliesTo k (with_last os last) rs → AreRepliesTo k (with_last qs last) ps → AreEqualReplies ds es rs ps
unfolding AlikeOutsideSeals EqualReplies
equal_by k [] (e ∷ es) os qs last rs ps a f g e' h i = absurd a
equal_by k (d ∷ ds) [] os qs last rs ps a f g e' h i = absurd a
equal_by k [] [] (o ∷ os) qs last rs ps a f g e' h i = absurd f
equal_by k [] [] [] (q ∷ qs) last rs ps a f g e' h i = absurd g
equal_by k [] [] [] [] None [] [] a f g e' h i = tt
equal_by k [] [] [] [] None (r ∷ rs) ps a f g e' h i = absurd h
equal_by k [] [] [] [] None [] (p ∷ ps) a f g e' h i = absurd i
equal_by k [] [] [] [] (Some b) [] ps a f g e' h i = absurd h
equal_by k [] [] [] [] (Some b) (r ∷ rs) [] a f g e' h i = absurd i
equal_by k [] [] [] [] (Some b) (r ∷ []) (p ∷ []) a f g e' h i = (same_bytes k (refused b) (refused b) r p h.0 i.0 refl, tt)
equal_by k [] [] [] [] (Some b) (r ∷ s ∷ rs) (p ∷ ps) a f g e' h i = absurd h.1
equal_by k [] [] [] [] (Some b) (r ∷ []) (p ∷ s ∷ ps) a f g e' h i = absurd i.1
equal_by k (d ∷ ds) (e ∷ es) [] qs last rs ps a f g e' h i = absurd f
equal_by k (d ∷ ds) (e ∷ es) (o ∷ os) [] last rs ps a f g e' h i = absurd g
equal_by k (d ∷ ds) (e ∷ es) (o ∷ os) (q ∷ qs) last [] ps a f g e' h i =
    absurd (subst (λ xs. AreRepliesTo k xs []) (last_after o os last) h)
equal_by k (d ∷ ds) (e ∷ es) (o ∷ os) (q ∷ qs) last (r ∷ rs) [] a f g e' h i =
    absurd (subst (λ xs. AreRepliesTo k xs []) (last_after q qs last) i)
equal_by k (d ∷ ds) (e ∷ es) (o ∷ os) (q ∷ qs) last (r ∷ rs) (p ∷ ps) a f g e' h i =
    let x = subst (λ xs. AreRepliesTo k xs (r ∷ rs)) (last_after o os last) h in
    let y = subst (λ xs. AreRepliesTo k xs (p ∷ ps)) (last_after q qs last) i in (
      (λ same. same_bytes k o q r p x.0 y.0 (e'.0 same)),
      (λ is also. same_bytes k o q r p x.0 y.0 (e'.1 (to_accepted o (sym x.0.accepting ∙ is)) (to_accepted q (sym y.0.accepting ∙ also)))),
      equal_by (suc k) ds es os qs last rs ps a.1 f g e'.2 x.1 y.1,
    )

all_equal : (Rs Qs : List (Sig Name)) (xs : List Pair) (ss ts : List SourceUnit) (oss qss : List (List Answered)) (rs ps : List UnitReplies) → Told xs ss ts
    → RunProject naming initial_basis Rs ss oss → RunProject naming initial_basis Qs ts qss → Replied ss oss rs → Replied ts qss ps
    → ProjectsReplyEqually naming naming ss ts oss qss → AllHaveEqualReplies xs rs ps
unfolding RunProject ProjectsReplyEqually
all_equal Rs Qs [] [] [] [] [] [] [] h r q m n e = tt
all_equal Rs Qs [] [] [] [] [] [] (p ∷ ps) h r q m n e = absurd n
all_equal Rs Qs [] [] [] [] [] (x ∷ rs) ps h r q m n e = absurd m
all_equal Rs Qs [] [] [] [] (qs ∷ qss) rs ps h r q m n e = absurd q
all_equal Rs Qs [] [] [] (os ∷ oss) qss rs ps h r q m n e = absurd r
all_equal Rs Qs [] [] (t ∷ ts) oss qss rs ps h r q m n e = absurd h
all_equal Rs Qs [] (s ∷ ss) ts oss qss rs ps h r q m n e = absurd h
all_equal Rs Qs (x ∷ xs) [] ts oss qss rs ps h r q m n e = absurd h
all_equal Rs Qs (x ∷ xs) (s ∷ ss) [] oss qss rs ps h r q m n e = absurd h
all_equal Rs Qs (x ∷ xs) (s ∷ ss) (t ∷ ts) [] qss rs ps h r q m n e = absurd r
all_equal Rs Qs (x ∷ xs) (s ∷ ss) (t ∷ ts) (os ∷ oss) [] rs ps h r q m n e = absurd q
all_equal Rs Qs (x ∷ xs) (s ∷ ss) (t ∷ ts) (os ∷ oss) (qs ∷ qss) [] ps h r q m n e = absurd m
all_equal Rs Qs (x ∷ xs) (s ∷ ss) (t ∷ ts) (os ∷ oss) (qs ∷ qss) (y ∷ rs) [] h r q m n e = absurd n
all_equal Rs Qs (x ∷ xs) (s ∷ ss) (t ∷ ts) (os ∷ oss) (qs ∷ qss) (y ∷ rs) (p ∷ ps) h r q m n e =
    let a = h.0 in
    let alike = subst (λ es. AlikeOutsideSeals s.declarations es) (sym a.4) (subst (λ ds. AlikeOutsideSeals ds x.others) (sym a.3) a.7) in
    let others = subst (λ l. AreRepliesTo 1 (with_last qs l) p.replies.items) (a.6 ∙ sym a.5) n.0.1 in
    let equal = equal_by 1 s.declarations t.declarations os qs s.last y.replies.items p.replies.items alike (run_fits s.maker (start initial_basis Rs s.needs) s.declarations os r.0) (run_fits t.maker (start initial_basis Qs t.needs) t.declarations qs q.0) e.0 m.0.1 others in (
      m.0.0 ∙ a.0 ∙ sym n.0.0,
      subst (λ es. AreEqualReplies x.declarations es y.replies.items p.replies.items) a.4 (subst (λ ds. AreEqualReplies ds t.declarations y.replies.items p.replies.items) a.3 equal),
      all_equal (Rs ++ exports nothing os ∷ []) (Qs ++ exports nothing qs ∷ []) xs ss ts oss qss rs ps h.1 r.1 q.1 m.1 n.1 e.1,
    )

pub files_isolate : SealsIsolate → (p q : Project) (rs qs : Replies) (pairs : List Pair) (h : MayReply p rs) (k : MayReply q qs) → AllSpecified h.sources → AllSpecified k.sources
    → FilesAlike (unit_texts p) (unit_texts q) pairs → AllAgreeOnSeals pairs rs.units.items qs.units.items → AllHaveEqualReplies pairs rs.units.items qs.units.items
files_isolate isolate p q rs qs pairs h k all others alike agree =
    let tell = told (unit_texts p) (unit_texts q) pairs h.sources k.sources alike h.sources_are k.sources_are in
    let first = units_on [] h.sources refl all in
    let second = units_on [] k.sources refl others in
    let run = subst (λ ss. RunProject naming initial_basis [] ss h.answers) first h.run in
    let ran = subst (λ ss. RunProject naming initial_basis [] ss k.answers) second k.run in
    let m = replied [] h.sources h.answers rs.units.items all run (subst (λ ss. AreUnitReplies h.sources ss h.answers rs.units.items) first h.replies) in
    let n = replied [] k.sources k.answers qs.units.items others ran (subst (λ ss. AreUnitReplies k.sources ss k.answers qs.units.items) second k.replies) in
    let equal = isolate h.sources k.sources h.answers k.answers run ran (alike_by pairs h.sources k.sources tell) (all_agree pairs h.sources k.sources h.answers k.answers rs.units.items qs.units.items tell m n agree) in
    all_equal [] [] pairs h.sources k.sources h.answers k.answers rs.units.items qs.units.items tell run ran m n equal
