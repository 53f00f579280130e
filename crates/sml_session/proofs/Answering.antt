-- What a session answers.
use Rattle.std.proofs.Common.{◌≡◌, ◌==◌, ℕ, ◌+◌, ◌-◌, ◌^◌, ◌≤◌, Bool, true, false, not, cond, ◌&&◌, List, [], ◌∷◌, Option, None, Some, Result, Ok, Err, IfOk, String, string_bytes, refl, sym, ap, subst, ◌∙◌, arith, min}
use Rattle.std.specs.Global.{Global}
use Rattle.std.specs.List.{count_by, list_all}
use Rattle.std.proofs.lemmas.Bool.{ne_eqb}
use Rattle.std.proofs.lemmas.List.Sums.{sum_by-cons}
use Rattle.std.proofs.Math.Nat.{le-min}
use Rattle.sml_projects.specs.Orders.{unit_texts}
use Rattle.sml_reply.specs.declared.form.Form.{Form}
use Rattle.sml_reply.specs.declared.sink.OutFault.{OutFault}
use Rattle.sml_reply.specs.Replies.{accepts}
use Rattle.sml_reply.specs.Sinks.{Prints}
use Rattle.sml_units.specs.declared.project.Replies.{Replies}
use Rattle.sml_units.specs.declared.run.Summary.{Summary}
use Rattle.sml_units.specs.Checked.{HaveOwnPlaces, MayReply, ProjectsHaveOwnPlaces}
use Rattle.sml_units.specs.Complete.{AreAllComplete}
use Rattle.sml_units.specs.Written.{IsOutcome, replies_of, replies_text, summary_of}
use Rattle.sml_session.specs.declared.files.Listed.{Listed}
use Rattle.sml_session.specs.declared.stops.Stop.{Stop}
use Rattle.sml_session.specs.Files.{Giving, IsRead}
use Rattle.sml_session.specs.Sessions.{Answers, MayAnswer, Use, status_after, used}

-- a count of a summary
abbrev at_most : ℕ → ℕ
at_most n = min n (2 ^ 64 - 1)

-- one more reply
one_more : (b : Bool) (k : ℕ) (all : Bool) → (at_most k == 0) ≡ all → (at_most (cond (not b) 1 0 + k) == 0) ≡ (b && all)
one_more true k all h = ap (λ n. at_most n == 0) (omega arith) ∙ h
one_more false k all h = ne_eqb (at_most (1 + k)) 0 (λ e. (let m : 1 ≤ at_most (1 + k) = le-min (omega arith) (omega arith) in omega (arith, m, e)))

-- none is refused where all are accepted
none_refused : {X : Type 0} (f : X → Bool) (xs : List X) → (at_most (count_by (λ x. not (f x)) xs) == 0) ≡ list_all f xs
none_refused f [] = refl
none_refused f (x ∷ xs) =
    ap (λ n. at_most n == 0) (sum_by-cons (λ x. cond (not (f x)) 1 0) x xs) ∙ one_more (f x) (count_by (λ x. not (f x)) xs) (list_all f xs) (none_refused f xs)

-- the status by the summary
pub status_told : (rs : Replies) (s : Summary) (n : ℕ) → s ≡ summary_of (replies_of rs.units.items) → n ≡ cond (s.refused == 0) 0 1 → n ≡ status_after rs
unfolding summary_of
status_told rs s n counted told = told ∙ ap (λ k. cond (k == 0) 0 1) (ap (λ x. x.refused) counted) ∙ ap (λ b. cond b 0 1) (none_refused accepts (replies_of rs.units.items))

-- what a run gives
pub run_answers : (May : Replies → Type 0) (form : Form) (old new : Option (List ℕ)) (before after : ℕ) (s : Summary) (status : ℕ) → IsOutcome May form old new before after (Ok s)
    → status ≡ cond (s.refused == 0) 0 1 → Answers May form (used old new before after) status
unfolding IsOutcome Prints
run_answers May form old new before after s status h told = record { replies = h.replies; may = h.may; written = h.printed; status_is = status_told h.replies s status h.counted told }

-- what is written of a check
pub check_answers : (May : Replies → Type 0) (form : Form) (rs : Replies) → May rs → (old new : Option (List ℕ)) (before after : ℕ) (s : Summary) (status : ℕ) → Prints {E = OutFault} old new before after (Ok s) (replies_text rs form)
    → s ≡ summary_of (replies_of rs.units.items) → status ≡ cond (s.refused == 0) 0 1 → Answers May form (used old new before after) status
unfolding Prints
check_answers May form rs may old new before after s status h counted told = record { replies = rs; may = may; written = h; status_is = status_told rs s status counted told }

-- the same answers, of which more is known
widen : (A B : Replies → Type 0) (form : Form) (out : Use) (r : Result ℕ Stop) → ((rs : Replies) → A rs → B rs) → IfOk r (Answers A form out) → IfOk r (Answers B form out)
widen A B form out (Err s) f h = tt
widen A B form out (Ok n) f h = record { replies = h.replies; may = f h.replies h.may; written = h.written; status_is = h.status_is }

-- the answer to a project
pub first_answers : (Gives : Giving) (path : List ℕ) (second : Option (String Global)) (l : Listed) (form : Form) (out : Use) (r : Result ℕ Stop) → ProjectsHaveOwnPlaces → second ≡ None → IsRead Gives path l
    → IfOk r (Answers (λ rs. HaveOwnPlaces (unit_texts l.project) → MayReply l.project rs) form out) → IfOk r (Answers (MayAnswer Gives path second) form out)
first_answers Gives path second l form out r own none read h =
    widen _ _ form out r (λ rs may. subst (λ s. MayAnswer Gives path s rs) (sym none) (l, read, may (own _ _ l.project read.project))) h

-- the answer to a second one
pub second_answers : (Gives : Giving) (path : List ℕ) (second : Option (String Global)) (s : String Global) (l k : Listed) (form : Form) (out : Use) (r : Result ℕ Stop) → second ≡ Some s → IsRead Gives path l
    → IsRead Gives (string_bytes s) k → IfOk r (Answers (λ rs. AreAllComplete (unit_texts k.project) rs.units.items) form out) → IfOk r (Answers (MayAnswer Gives path second) form out)
second_answers Gives path second s l k form out r some read again h =
    widen _ _ form out r (λ rs may. subst (λ s. MayAnswer Gives path s rs) (sym some) (l, read, (k, again, may))) h
