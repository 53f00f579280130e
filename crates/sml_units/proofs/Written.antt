-- Texts and counts of replies, one after the other.
use Rattle.std.proofs.Common.{◌<◌, map, take, drop, get_or, ◌≡◌, ℕ, ◌+◌, ◌≤◌, Bool, true, false, not, cond, List, [], ◌∷◌, ◌++◌, length, Option, Result, Ok, Err, is_ok, IfOk, IfErr, refl, ap, sym, subst, ◌∙◌, append_assoc}
use Rattle.std.specs.List.{count_by, sum_by}
use Rattle.std.proofs.lemmas.Bool.{false≢true}
use Rattle.std.proofs.lemmas.List.{take_all, take_more, flat_map_more}
use Rattle.std.proofs.lemmas.List.Sums.{sum_by_push}
use Rattle.sml_bases.specs.Entries.{capped}
use Rattle.sml_bases.proofs.Totals.{capped-more}
use Rattle.sml_reply.specs.declared.form.Form.{Form}
use Rattle.sml_reply.specs.declared.reply.Reply.{Reply}
use Rattle.sml_reply.specs.Replies.{warnings_of, accepts}
use Rattle.sml_reply.specs.Sinks.{in_turn, Prints}
use Rattle.sml_reply.proofs.Sinks.{turn-more, turn-rest}
use Rattle.sml_units.specs.declared.project.Replies.{Replies}
use Rattle.sml_units.specs.declared.project.UnitReplies.{UnitReplies}
use Rattle.sml_units.specs.declared.run.Summary.{Summary}
use Rattle.sml_units.specs.declared.run.RunFault.{RunFault}
use Rattle.sml_units.specs.declared.run.RunFault.TheVariants.{Write}
use Rattle.sml_units.specs.Written.{replies_text, replies_of, summary_of, IsOutcome}

pub turn-more-at : {A : Type 0} (f : A → List ℕ) (xs : List A) (i : ℕ) (x : A) → i < length xs → x ≡ get_or xs i x → in_turn (map f (take (i + 1) xs)) ≡ in_turn (map f (take i xs)) ++ f x
turn-more-at f xs i x h is = turn-more f xs i x h ∙ ap (λ y. in_turn (map f (take i xs)) ++ f y) (sym is)

pub turn-rest-at : {A : Type 0} (f : A → List ℕ) (xs : List A) (i : ℕ) (x : A) → i < length xs → x ≡ get_or xs i x
    → in_turn (map f xs) ≡ (in_turn (map f (take i xs)) ++ f x) ++ in_turn (map f (drop (i + 1) xs))
turn-rest-at f xs i x h is = turn-rest f xs i x h ∙ ap (λ y. (in_turn (map f (take i xs)) ++ f y) ++ in_turn (map f (drop (i + 1) xs))) (sym is)

refused-more : (b : Bool) → ◌≡◌ {A = ℕ} (cond b 0 1) (cond (not b) 1 0)
refused-more true = refl
refused-more false = refl

pub summary-more : (rs : List Reply) (r : Reply) (s t : Summary) → s ≡ summary_of rs → t.accepted ≡ capped (s.accepted + cond (accepts r) 1 0)
    → t.refused ≡ capped (s.refused + cond (accepts r) 0 1) → t.warnings ≡ capped (s.warnings + length (warnings_of r)) → t ≡ summary_of (rs ++ r ∷ [])
unfolding summary_of
summary-more rs r s t e a b w =
    let accepted : t.accepted ≡ capped (count_by accepts (rs ++ r ∷ [])) =
    a ∙ ap (λ n. capped (n + cond (accepts r) 1 0)) (ap (λ u. u.accepted) e) ∙ capped-more (count_by accepts rs) (cond (accepts r) 1 0)
    ∙ ap capped (sym (sum_by_push (λ x. cond (accepts x) 1 0) rs r)) in
    let refused : t.refused ≡ capped (count_by (λ x. not (accepts x)) (rs ++ r ∷ [])) =
    b ∙ ap (λ n. capped (n + cond (accepts r) 0 1)) (ap (λ u. u.refused) e) ∙ ap (λ n. capped (capped (count_by (λ x. not (accepts x)) rs) + n)) (refused-more (accepts r))
    ∙ capped-more (count_by (λ x. not (accepts x)) rs) (cond (not (accepts r)) 1 0) ∙ ap capped (sym (sum_by_push (λ x. cond (not (accepts x)) 1 0) rs r)) in
    let warnings : t.warnings ≡ capped (sum_by (λ x. length (warnings_of x)) (rs ++ r ∷ [])) =
    w ∙ ap (λ n. capped (n + length (warnings_of r))) (ap (λ u. u.warnings) e) ∙ capped-more (sum_by (λ x. length (warnings_of x)) rs) (length (warnings_of r))
    ∙ ap capped (sym (sum_by_push (λ x. length (warnings_of x)) rs r)) in
    λ i. record { accepted = accepted i; refused = refused i; warnings = warnings i }

-- the next reply of a unit, after those of the units before it
pub summary-next : (before rs : List Reply) (i : ℕ) (r : Reply) (s t : Summary) → i < length rs → r ≡ get_or rs i r → s ≡ summary_of (before ++ take i rs)
    → t.accepted ≡ capped (s.accepted + cond (accepts r) 1 0) → t.refused ≡ capped (s.refused + cond (accepts r) 0 1) → t.warnings ≡ capped (s.warnings + length (warnings_of r))
    → t ≡ summary_of (before ++ take (i + 1) rs)
summary-next before rs i r s t h is e a b w =
    summary-more (before ++ take i rs) r s t e a b w
    ∙ ap summary_of (append_assoc before (take i rs) (r ∷ []) ∙ ap (λ y. before ++ (take i rs ++ y ∷ [])) is ∙ ap (λ l. before ++ l) (sym (take_more rs i r h)))

-- all replies of the next unit, after those of the units before it
pub replies-next : (us : List UnitReplies) (i : ℕ) (u : UnitReplies) (rs : List Reply) (k : ℕ) → i < length us → u ≡ get_or us i u → rs ≡ u.replies.items → length rs ≤ k
    → replies_of (take i us) ++ take k rs ≡ replies_of (take (i + 1) us)
replies-next us i u rs k h is own all =
    ap (λ l. replies_of (take i us) ++ l) (take_all k rs all ∙ own) ∙ flat_map_more (λ v. v.replies.items) [] (take i us) u
    ∙ ap replies_of (ap (λ y. take i us ++ y ∷ []) is ∙ sym (take_more us i u h))

pub printed-as : {X E Y F : Type 0} (a b : Option (List ℕ)) (m n : ℕ) (r : Result X E) (q : Result Y F) (text : List ℕ) → is_ok q ≡ is_ok r → Prints a b m n r text → Prints a b m n q text
unfolding Prints
printed-as a b m n (Ok x) (Ok y) text e p = p
printed-as a b m n (Ok x) (Err f) text e p = absurd (false≢true e)
printed-as a b m n (Err x) (Ok y) text e p = absurd (false≢true (sym e))
printed-as a b m n (Err x) (Err f) text e p = p

-- what was printed and counted are replies that may be given
pub outcome : (May : Replies → Type 0) (form : Form) (a b : Option (List ℕ)) (m n : ℕ) (r : Result Summary RunFault) (rs : Replies) → May rs → Prints a b m n r (replies_text rs form)
    → IfOk r (λ s. s ≡ summary_of (replies_of rs.units.items)) → IfErr r (λ f. f ≡ Write) → IsOutcome May form a b m n r
unfolding IsOutcome
outcome May form a b m n (Ok s) rs may printed counted fault = record { replies = rs; may = may; printed = printed; counted = counted }
outcome May form a b m n (Err f) rs may printed counted fault =
    subst (λ g. IsOutcome May form a b m n (Err g)) (sym fault) (record { replies = rs; may = may; printed = printed-as a b m n (Err f) (Err Write) (replies_text rs form) refl printed; counted = tt })
