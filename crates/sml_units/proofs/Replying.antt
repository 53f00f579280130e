-- Runs and replies, declaration by declaration.
use Rattle.std.proofs.Common.{◌≡◌, ◌+◌, ℕ, suc, Bool, true, false, cond, ◌&&◌, List, [], ◌∷◌, ◌++◌, length, Option, Some, None, IfSome, Result, Ok, Err, IfOk, OnOk, refl, ap, sym, subst, ◌∙◌, append_assoc, append-nil, arith}
use Rattle.std.specs.Prelude.{◌==◌}
use Rattle.std.specs.List.{list_all}
use Rattle.std.specs.Option.{option_map, option_to_list}
use Rattle.std.proofs.lemmas.Bool.{and_parts, eqb-true}
use Rattle.std.proofs.lemmas.List.{length-map, length-append}
use Rattle.sml_lex.specs.declared.fault.Place.{Place}
use Rattle.sml_lex.specs.Faults.{Fault, first_place}
use Rattle.sml_tree.specs.Trees.{Dec}
use Rattle.sml_objects.specs.Objects as O
use Rattle.sml_objects.specs.Objects.{Sig, Env, empty_env, Basis, extend, extend_env, names_basis}
use Rattle.sml_objects.specs.Initial.{Name, naming, initial_basis}
use Rattle.sml_objects.specs.Views.{env_of, maker_of, name_of, sig_of}
use Rattle.sml_objects.specs.declared.objects.Basis as PB
use Rattle.sml_rules.specs.Answers.{refused, accepted}
use Rattle.sml_rules.specs.Every.{Every}
use Rattle.sml_rules.specs.Open.{OpenEnv, OpenStructures, OpenFunctions}
use Rattle.sml_rules.specs.Readings.{read_top, is_specified}
use Rattle.sml_rules.specs.Rules.{IsOpen, AreOpen}
use Rattle.sml_rules.proofs.Open.{extended}
use Rattle.sml_rules.proofs.Sound.{readings_sound}
use Rattle.sml_reply.specs.Replies.{number_of}
use Rattle.sml_reply.specs.declared.reply.Reply.{Reply}
use Rattle.sml_piece.specs.Elaborated.{IsBasisOf, IsOwnBasis, IsBelow}
use Rattle.sml_piece.proofs.Specifying.{all_below_more, basis_below}
use Rattle.sml_exports.specs.declared.exports.Exports.{Exports}
use Rattle.sml_units.specs.Runs.{Run, basis_after, start, needed, all_names, SourceUnit, RunProject, exports_after, exports, nothing, specified_beginning, flag_at, is_whole}
use Rattle.sml_projects.specs.Orders.{UnitText}
use Rattle.sml_units.specs.declared.project.Beginning.{Beginning}
use Rattle.sml_units.specs.Checked.{Answered, IsReplyTo, AreRepliesTo, AreNumbered, AreSound, AreAllSound, IsSoundAnswer, AreSpelt, BeginWith, AreReplies, with_last}
use Rattle.sml_units.specs.CodeUnits.{IsStep, IsBegun, AreBegunAndEnded, IsAnswered, Keeps, env_after}
use Rattle.sml_units.proofs.Names.{start_below, needed_open}

-- there are as many, however they are seen
pub as_many : {A B : Type 0} (f : A → B) (o : Option A) → length (option_to_list o) ≡ length (option_to_list (option_map f o))
as_many f (Some x) = refl
as_many f None = refl

-- the basis after these answers
abbrev pub after_all : Basis Name → List Answered → Basis Name
after_all B [] = B
after_all B (o ∷ os) = after_all (basis_after B o) os

pub after_push : (B : Basis Name) (os : List Answered) (o : Answered) → after_all B (os ++ o ∷ []) ≡ basis_after (after_all B os) o
after_push B [] o = refl
after_push B (q ∷ os) o = after_push (basis_after B q) os o

pub run_none : (unit : ℕ) (B : Basis Name) → Run naming unit B [] []
unfolding Run
run_none unit B = tt

pub run_push : (unit : ℕ) (B : Basis Name) (ds : List (Dec Place)) (d : Dec Place) (os : List Answered) (o : Answered) → Run naming unit B ds os
    → read_top naming first_place unit (after_all B os) d o → Run naming unit B (ds ++ d ∷ []) (os ++ o ∷ [])
unfolding Run
run_push unit B [] d [] o h k = (k, tt)
run_push unit B [] d (q ∷ os) o h k = absurd h
run_push unit B (e ∷ ds) d [] o h k = absurd h
run_push unit B (e ∷ ds) d (q ∷ os) o h k = (h.0, run_push unit (basis_after B q) ds d os o h.1 k)

pub replies_push : (k : ℕ) (os : List Answered) (rs : List Reply) (o : Answered) (r : Reply) → AreRepliesTo k os rs → IsReplyTo (k + length rs) o r
    → AreRepliesTo k (os ++ o ∷ []) (rs ++ r ∷ [])
replies_push k [] [] o r h g = (subst (λ n. IsReplyTo n o r) (omega arith) g, tt)
replies_push k [] (s ∷ rs) o r h g = absurd h
replies_push k (q ∷ os) [] o r h g = absurd h
replies_push k (q ∷ os) (s ∷ rs) o r h g = (h.0, replies_push (suc k) os rs o r h.1 (subst (λ n. IsReplyTo n o r) (omega arith) g))

-- what one more answer exports
pub exports_push : (S : Sig Name) (os : List Answered) (o : Answered) → exports S (os ++ o ∷ []) ≡ exports_after (exports S os) o
unfolding exports
exports_push S [] o = refl
exports_push S (q ∷ os) o = exports_push (exports_after S q) os o

pub exports_none : (exports {N = Name} nothing []).body ≡ empty_env
unfolding exports
exports_none = refl

pub after_env : (S : Sig Name) (o : Answered) → (exports_after S o).body ≡ env_after S.body o
after_env S (refused f) = refl
after_env S (accepted S') = refl

-- what runs accept is sound
pub run_sound : (unit : ℕ) (B : Basis Name) (ds : List (Dec Place)) (os : List Answered) → Run naming unit B ds os → AreSound unit B ds os
unfolding Run
run_sound unit B [] os h = tt
run_sound unit B (d ∷ ds) [] h = tt
run_sound unit B (d ∷ ds) (o ∷ os) h = (answer_sound o h.0, run_sound unit (basis_after B o) ds os h.1)
  where
    answer_sound : (o : Answered) → read_top naming first_place unit B d o → IsSoundAnswer unit B d o
    answer_sound (refused f) h = tt
    answer_sound (accepted S) h = readings_sound naming first_place unit B d S h

-- and so is what those of projects accept
pub project_sound : (Ss : List (Sig Name)) (us : List SourceUnit) (oss : List (List Answered)) → RunProject naming initial_basis Ss us oss → AreAllSound Ss us oss
unfolding RunProject
project_sound Ss [] oss h = tt
project_sound Ss (u ∷ us) [] h = tt
project_sound Ss (u ∷ us) (os ∷ oss) h = (run_sound u.maker (start initial_basis Ss u.needs) u.declarations os h.0, project_sound (Ss ++ exports nothing os ∷ []) us oss h.1)

nothing_there : {b : Bool} {bs : List Bool} → b ∷ bs ≡ [] → ⊥
nothing_there e = cc

pub initial_open : OpenEnv initial_basis.body
unfolding initial_basis OpenEnv OpenStructures OpenFunctions IsOpen AreOpen
initial_open = (tt, ((λ e. tt), ((λ e. tt), ((λ e. tt), ((λ e. tt), ((λ e. absurd (nothing_there e)), ((λ e. tt), ((λ e. absurd (nothing_there e)), ((λ e. tt), ((λ e. tt), ((λ e. tt), tt)))))))))))

-- the basis from which a unit starts
pub start_is : (p : PB.Basis) (Ss : List (Sig Name)) (ks : List ℕ) → (needed initial_basis Ss ks).body ≡ env_of p.env → p.names.items ≡ []
    → Every (IsBelow (maker_of p.unit) 0) (all_names Ss) → Every (λ S. OpenEnv S.body) Ss → IsBasisOf p (start initial_basis Ss ks)
unfolding start
start_is p Ss ks env none below opened = record {
  body_is = env;
  count_is = ap length (sym none);
  below = subst (λ ns. Every (IsBelow (maker_of p.unit) (length ns)) (names_basis (start initial_basis Ss ks))) (sym none) (start_below (maker_of p.unit) Ss ks below);
  opened = needed_open initial_basis Ss ks initial_open opened;
}

-- a basis with one more declaration
pub added : (p q : PB.Basis) (own : PB.Basis) (B : Basis Name) → IsBasisOf p B → IsOwnBasis p own → OpenEnv (sig_of own).body
    → env_of q.env ≡ extend_env (env_of p.env) (env_of own.env) → q.names.items ≡ p.names.items ++ own.names.items → q.unit ≡ p.unit
    → IsBasisOf q (extend B (sig_of own))
unfolding extend
added p q own B basis is opened env names unit =
    let S = sig_of own in
    let count : length q.names.items ≡ length p.names.items + length own.names.items = ap length names ∙ length-append p.names.items own.names.items in
    record {
      body_is = ap (λ E. extend_env E S.body) basis.body_is ∙ sym env;
      count_is = (λ i. basis.count_is i + length-map own.names.items name_of i) ∙ sym count;
      below = subst (λ u. Every (IsBelow (maker_of u) (length q.names.items)) (names_basis (extend B S))) (sym unit)
          (subst (λ n. Every (IsBelow (maker_of p.unit) n) (names_basis (extend B S))) (sym count)
          (basis_below (maker_of p.unit) (length p.names.items + length own.names.items) B S
          (all_below_more (maker_of p.unit) (length p.names.items) (length own.names.items) (names_basis B) basis.below) is.own_below));
      opened = extended B.body S.body basis.opened opened;
    }

-- an accepted declaration is a step of its unit
pub accepted_step : {E : Type 0} (old new was bound own : PB.Basis) (B : Basis Name) (d : Dec Place) (number : ℕ) (r : Result Reply E) → IsBasisOf old B
    → read_top naming first_place (maker_of old.unit) B d (accepted (sig_of own)) → IfOk r (λ r. IsReplyTo number (accepted (sig_of own)) r)
    → OnOk r (IsBasisOf new (extend B (sig_of own))) → OnOk r (new.unit ≡ old.unit)
    → OnOk r (env_of bound.env ≡ extend_env (env_of was.env) (env_of own.env)) → IfOk r (IsStep old new was bound B d number)
accepted_step old new was bound own B d number (Ok r) basis h k after unit binds =
    record { answer = accepted (sig_of own); reading = h; reply = k; after = after; unit = unit; bound_is = binds }
accepted_step old new was bound own B d number (Err e) basis h k after unit binds = tt

pub unwarned : {E : Type 0} {X : Type 0} (r : Result X E) (P : Type 0) (Q : X → Type 0) → P → IfOk r (λ x. P → Q x) → IfOk r Q
unwarned (Ok x) P Q p h = h p
unwarned (Err e) P Q p h = tt

-- lengths of runs and replies

pub replies_length : (k : ℕ) (os : List Answered) (rs : List Reply) → AreRepliesTo k os rs → length rs ≡ length os
replies_length k [] [] h = refl
replies_length k [] (r ∷ rs) h = absurd h
replies_length k (o ∷ os) [] h = absurd h
replies_length k (o ∷ os) (r ∷ rs) h = ap suc (replies_length (suc k) os rs h.1)

pub run_length : (unit : ℕ) (B : Basis Name) (ds : List (Dec Place)) (os : List Answered) → Run naming unit B ds os → length os ≡ length ds
unfolding Run
run_length unit B [] [] h = refl
run_length unit B [] (o ∷ os) h = absurd h
run_length unit B (d ∷ ds) [] h = absurd h
run_length unit B (d ∷ ds) (o ∷ os) h = ap suc (run_length unit (basis_after B o) ds os h.1)

-- numbers of replies

pub numbered_append : (k : ℕ) (rs more : List Reply) → AreNumbered k rs → AreNumbered (k + length rs) more → AreNumbered k (rs ++ more)
numbered_append k [] more h g = subst (λ n. AreNumbered n more) (omega arith) g
numbered_append k (r ∷ rs) more h g = (h.0, numbered_append (suc k) rs more h.1 (subst (λ n. AreNumbered n more) (omega arith) g))

pub numbered_push : (k : ℕ) (rs : List Reply) (r : Reply) → AreNumbered k rs → number_of r ≡ k + length rs → AreNumbered k (rs ++ r ∷ [])
numbered_push k rs r h e = numbered_append k rs (r ∷ []) h (e, tt)

pub replies_numbered : (k : ℕ) (os : List Answered) (rs : List Reply) → AreRepliesTo k os rs → AreNumbered k rs
replies_numbered k [] [] h = tt
replies_numbered k [] (r ∷ rs) h = absurd h
replies_numbered k (o ∷ os) [] h = absurd h
replies_numbered k (o ∷ os) (r ∷ rs) h = (h.0.numbered, replies_numbered (suc k) os rs h.1)

begin_with : (k : ℕ) (os : List Answered) (rs more : List Reply) → AreRepliesTo k os rs → BeginWith k os (rs ++ more)
begin_with k [] rs more h = tt
begin_with k (o ∷ os) [] more h = absurd h
begin_with k (o ∷ os) (r ∷ rs) more h = (h.0, begin_with (suc k) os rs more h.1)

-- declarations that are all specified

pub beginning_all : (ds : List (Dec Place)) → list_all is_specified ds ≡ true → specified_beginning ds ≡ ds
beginning_all [] h = refl
beginning_all (d ∷ ds) h =
    let p = and_parts (is_specified d) (list_all is_specified ds) h in
    (λ i. cond (p.0 i) (d ∷ specified_beginning ds) []) ∙ ap (λ es. d ∷ es) (beginning_all ds p.1)

-- those before one that isn't
pub beginning_cut : (ds rest : List (Dec Place)) (d : Dec Place) → list_all is_specified ds ≡ true → is_specified d ≡ false → specified_beginning (ds ++ d ∷ rest) ≡ ds
beginning_cut [] rest d h n = λ i. cond (n i) (d ∷ specified_beginning rest) []
beginning_cut (e ∷ ds) rest d h n =
    let p = and_parts (is_specified e) (list_all is_specified ds) h in
    (λ i. cond (p.0 i) (e ∷ specified_beginning (ds ++ d ∷ rest)) []) ∙ ap (λ es. e ∷ es) (beginning_cut ds rest d p.1 n)

-- those before the one at i
pub beginning_cut_at : (ds rest : List (Dec Place)) (d : Dec Place) (all : List (Dec Place)) → all ≡ ds ++ d ∷ rest → list_all is_specified ds ≡ true → is_specified d ≡ false → specified_beginning all ≡ ds
beginning_cut_at ds rest d all e h n = ap specified_beginning e ∙ beginning_cut ds rest d h n

pub all_push : (ds : List (Dec Place)) (d : Dec Place) → list_all is_specified ds ≡ true → is_specified d ≡ true → list_all is_specified (ds ++ d ∷ []) ≡ true
all_push [] d h k = (λ i. k i && true)
all_push (e ∷ ds) d h k =
    let p = and_parts (is_specified e) (list_all is_specified ds) h in
    (λ i. p.0 i && all_push ds d p.1 k i)

and_no : (b : Bool) → (b && false) ≡ false
and_no true = refl
and_no false = refl

pub not_all : (ds rest : List (Dec Place)) (d : Dec Place) → is_specified d ≡ false → list_all is_specified (ds ++ d ∷ rest) ≡ false
not_all [] rest d n = λ i. n i && list_all is_specified rest
not_all (e ∷ ds) rest d n = ap (λ b. is_specified e && b) (not_all ds rest d n) ∙ and_no (is_specified e)

-- nothing is put into an environment
pub onto_nothing : (E : Env Name) → extend_env E empty_env ≡ E
onto_nothing (O.env ss ts vs) = refl

-- the answers and the last fault of a unit, from how its replies were made
abbrev source_of : UnitText → ℕ → List (Dec Place) → Option (Fault Place) → SourceUnit
source_of u n ds last = record { label = u.name; maker = suc u.place; needs = u.needs; number = n; declarations = ds; last = last }

pub ends_as_many : {X Y : Type 0} (g : X → Y) (o : Option X) → length (option_to_list o) ≡ length (option_to_list (option_map g o))
ends_as_many g None = refl
ends_as_many g (Some x) = refl

nothing_after : (rs tail : List Reply) → length (rs ++ tail) ≡ length rs → rs ++ tail ≡ rs
nothing_after [] [] h = refl
nothing_after [] (r ∷ tail) h = absurd (omega (arith, h))
nothing_after (r ∷ rs) tail h = ap (λ l. r ∷ l) (nothing_after rs tail (omega (arith, h)))

begun_by : (whole : Bool) (os : List Answered) (last : Option (Fault Place)) (rs tail ends : List Reply) → AreRepliesTo 1 os rs
    → (whole ≡ true → rs ++ tail ≡ rs) → (AreRepliesTo 1 os (rs ++ tail) → AreRepliesTo 1 (with_last os last) ((rs ++ tail) ++ ends))
    → BeginWith 1 (with_last os (cond whole last None)) ((rs ++ tail) ++ ends)
begun_by true os last rs tail ends h same more =
    subst (BeginWith 1 (with_last os last)) (append-nil ((rs ++ tail) ++ ends))
    (begin_with 1 (with_last os last) ((rs ++ tail) ++ ends) [] (more (subst (AreRepliesTo 1 os) (sym (same refl)) h)))
begun_by false os last rs tail ends h same more =
    subst (BeginWith 1 os) (sym (append_assoc rs tail ends)) (begin_with 1 os rs (tail ++ ends) h)

-- where a need isn't all specified, nothing is answered
pub none_begun : (maker : ℕ) (ready : Bool) (B : Basis Name) (ds : List (Dec Place)) (b : Beginning) → ready ≡ false → b.replies.items ≡ [] → env_of b.bound.env ≡ empty_env → b.is_whole ≡ false → IsBegun maker ready B ds b
none_begun maker ready B ds b lacks none bound part = record {
  answers = [];
  run = subst (λ r. Run naming maker B (cond r (specified_beginning ds) []) []) (sym lacks) (run_none maker B);
  replies = subst (AreRepliesTo 1 []) (sym none) tt;
  bound_is = bound ∙ sym exports_none;
  whole_is = part ∙ (λ i. sym lacks i && list_all is_specified ds);
}

-- whether all is specified, told by how many declarations the beginning answered
whole_same : (ready all : Bool) (j k n : ℕ) → (ready ≡ true → all ≡ true → j ≡ k) → ((ready && all) && (j == n)) ≡ (ready && (all && (k == n)))
whole_same true true j k n h = ap (λ i. i == n) (h refl refl)
whole_same true false j k n h = refl
whole_same false all j k n h = refl

pub unit_answered : (fs : List Bool) (Ss : List (Sig Name)) (u : UnitText) (ds : List (Dec Place)) (last : Option (Fault Place)) (spelt : AreSpelt u.text ds last) (b : Beginning) (tail ends : List Reply) (x : Exports)
    → IsBegun (suc u.place) (list_all (flag_at fs) u.needs) (start initial_basis Ss u.needs) ds b → length b.replies.items + length tail ≡ length spelt.tops → length ends ≡ length (option_to_list last)
    → ((os : List Answered) → AreRepliesTo 1 os (b.replies.items ++ tail) → AreRepliesTo 1 (with_last os last) ((b.replies.items ++ tail) ++ ends))
    → AreNumbered (suc (length b.replies.items)) tail → AreRepliesTo (suc (length spelt.tops)) (with_last [] last) ends
    → Keeps b (length spelt.tops) x → IsAnswered fs Ss u ((b.replies.items ++ tail) ++ ends) x
unit_answered fs Ss u ds last spelt b tail ends x begun all count more numbered to_last kept =
    let n = length spelt.tops in
    let s = source_of u n ds last in
    let B = start initial_basis Ss u.needs in
    let ready = list_all (flag_at fs) u.needs in
    let os = begun.answers in
    let rs = b.replies.items in
    let answered : ready ≡ true → list_all is_specified ds ≡ true → length rs ≡ length ds = (λ r a.
    replies_length 1 os rs begun.replies ∙ run_length (suc u.place) B (cond ready (specified_beginning ds) []) os begun.run
    ∙ ap length ((λ i. cond (r i) (specified_beginning ds) []) ∙ beginning_all ds a)) in
    let same : is_whole fs s ≡ true → rs ++ tail ≡ rs = (λ w.
    let parts = and_parts ready (list_all is_specified ds && (length ds == n)) w in
    let inner = and_parts (list_all is_specified ds) (length ds == n) parts.1 in
    let len = answered parts.0 inner.0 in
    let num = eqb-true (length ds) n inner.1 in
    let app = length-append rs tail in
    nothing_after rs tail (omega (arith, len, num, app, all))) in
    record {
      source = s;
      is = record { label_is = refl; maker_is = refl; needs_are = refl; spelt = spelt; number_is = refl };
      answers = os;
      run = begun.run;
      replies = record {
        begun = begun_by (is_whole fs s) os last rs tail ends begun.replies same (more os);
        number = (let a = length-append (rs ++ tail) ends in let b = length-append rs tail in omega (arith, a, b, all, count));
        numbered = numbered_append 1 (rs ++ tail) ends
            (numbered_append 1 rs tail (replies_numbered 1 os rs begun.replies) (subst (λ k. AreNumbered k tail) (omega arith) numbered))
            (subst (λ k. AreNumbered k ends) (let b = length-append rs tail in omega (arith, b, all)) (replies_numbered (suc n) (with_last [] last) ends to_last));
        ended = record { front = rs ++ tail; ends = ends; whole = refl; many = length-append rs tail ∙ all; to_last = to_last };
      };
      kept = record {
        is_there = kept.0 ∙ ap (λ w. w && (length rs == n)) begun.whole_is ∙ whole_same ready (list_all is_specified ds) (length rs) (length ds) n answered;
        env_is = subst (λ E. IfSome x.specified (λ e. env_of e.value ≡ E)) begun.bound_is kept.1;
      };
    }

-- what is known of an answer, of which more is known
pub if_ok : {A E : Type 0} (P Q : A → Type 0) (r : Result A E) → ((a : A) → P a → Q a) → IfOk r P → IfOk r Q
if_ok P Q (Ok a) f h = f a h
if_ok P Q (Err e) f h = tt

pub both_ok : {A E : Type 0} (P Q : A → Type 0) (r : Result A E) → IfOk r P → IfOk r Q → IfOk r (λ a. P a × Q a)
both_ok P Q (Ok a) h k = (h, k)
both_ok P Q (Err e) h k = tt

-- the replies to a unit, from how they were begun and ended
pub answered_unit : (fs : List Bool) (Ss : List (Sig Name)) (u : UnitText) (ds : List (Dec Place)) (last : Option (Fault Place)) (spelt : AreSpelt u.text ds last) (n : ℕ) → n ≡ length spelt.tops
    → (rs : List Reply) (x : Exports) → AreBegunAndEnded (suc u.place) fs Ss u.needs ds n last rs x → IsAnswered fs Ss u rs x
answered_unit fs Ss u ds last spelt n e rs x m =
    let y = m.ended in
    subst (λ rs. IsAnswered fs Ss u rs x) (sym y.replies)
    (unit_answered fs Ss u ds last spelt m.beginning_is y.tail y.ends x m.begun (y.number ∙ e) y.one (λ os h. subst (AreRepliesTo 1 (with_last os last)) y.replies (y.last_is os h))
    y.numbered (subst (λ n. AreRepliesTo (suc n) (with_last [] last) y.ends) e y.to_last)
    (subst (λ n. Keeps m.beginning_is n x) e m.kept))
