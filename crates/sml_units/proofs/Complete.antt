-- Replies to all that a unit's bytes spell, answered anew or copied.
use Rattle.std.proofs.Common.{◌≡◌, ◌<◌, ◌+◌, ℕ, zero, suc, false, List, [], ◌∷◌, ◌++◌, length, map, take, get_or, Option, Some, None, Vec, Global, refl, ap, sym, subst, ◌∙◌, arith}
use Rattle.std.specs.Prelude.{slice_get, vec_len}
use Rattle.std.specs.Option.{option_to_list}
use Rattle.std.proofs.Math.Seq.{take-length}
use Rattle.std.proofs.lemmas.List.{length-append, length-map, map_more, take_more}
use Rattle.sml_lex.specs.declared.fault.Place.{Place}
use Rattle.sml_lex.specs.Faults.{Fault}
use Rattle.sml_reply.specs.Replies.{reply_text, form_text}
use Rattle.sml_reply.specs.declared.form.Form.{Form}
use Rattle.sml_reply.specs.declared.form.Version.TheVariants.{One}
use Rattle.sml_reply.specs.declared.reply.Reply.{Reply}
use Rattle.sml_reply.specs.declared.reply.Reply.TheVariants.{Accepted, Refused}
use Rattle.sml_projects.specs.Orders.{UnitText, unit_text_of, unit_texts}
use Rattle.sml_projects.specs.declared.project.Project.{Project}
use Rattle.sml_projects.specs.declared.project.ProjectUnit.{ProjectUnit}
use Rattle.sml_units.specs.declared.project.Checked.{Checked}
use Rattle.sml_units.specs.declared.project.Source.{Source}
use Rattle.sml_units.specs.declared.project.UnitReplies.{UnitReplies}
use Rattle.sml_units.specs.Checked.{Answered, AreNumbered, AreRepliesTo, EndWith, IsReplyTo, with_last}
use Rattle.sml_units.specs.CodeUnits.{AreCopies, AreEnded, IsCopy, IsOneMore}
use Rattle.sml_units.specs.Complete.{AreAllComplete, AreComplete, AreTo, IsComplete, IsMadeOf, texts_of}
use Rattle.sml_units.proofs.Replying.{numbered_append, replies_numbered}

-- a beginning that is numbered, and what ends it
pub ended_to : (begun : List Reply) (n : ℕ) (last : Option (Fault Place)) (rs : List Reply) → AreNumbered 1 begun → AreEnded begun n last rs → AreTo n last rs
ended_to begun n last rs h e =
    let all : length (begun ++ e.tail) ≡ n = length-append begun e.tail ∙ e.number in
    subst (AreTo n last) (sym e.replies) (record {
      number = (let a = length-append (begun ++ e.tail) e.ends in let b = e.one in omega (arith, a, all, b));
      numbered = numbered_append 1 (begun ++ e.tail) e.ends (numbered_append 1 begun e.tail h (subst (λ k. AreNumbered k e.tail) (omega arith) e.numbered))
          (subst (λ k. AreNumbered k e.ends) (omega (arith, all)) (replies_numbered (suc n) (with_last [] last) e.ends e.to_last));
      ended = record { front = begun ++ e.tail; ends = e.ends; whole = refl; many = all; to_last = e.to_last };
    })

-- copies

plain : Form
plain = record { version = One; warnings = false }

plain_text : (r : Reply) → form_text r plain ≡ reply_text r false
unfolding plain form_text reply_text
plain_text (Accepted r) = refl
plain_text (Refused r) = refl

copies_length : (rs qs : List Reply) → AreCopies rs qs → length qs ≡ length rs
copies_length [] [] h = refl
copies_length [] (q ∷ qs) h = absurd h
copies_length (r ∷ rs) [] h = absurd h
copies_length (r ∷ rs) (q ∷ qs) h = ap suc (copies_length rs qs h.1)

copies_numbered : (k : ℕ) (rs qs : List Reply) → AreCopies rs qs → AreNumbered k rs → AreNumbered k qs
copies_numbered k [] [] h g = tt
copies_numbered k [] (q ∷ qs) h g = absurd h
copies_numbered k (r ∷ rs) [] h g = absurd h
copies_numbered k (r ∷ rs) (q ∷ qs) h g = (h.0.number ∙ g.0, copies_numbered (suc k) rs qs h.1 g.1)

copy_to : (k : ℕ) (o : Answered) (r q : Reply) → IsCopy r q → IsReplyTo k o r → IsReplyTo k o q
copy_to k o r q h g = record {
  printed = sym (plain_text q) ∙ h.text plain ∙ plain_text r ∙ g.printed;
  unwarned = h.warnings ∙ g.unwarned;
  accepting = h.accepting ∙ g.accepting;
  numbered = h.number ∙ g.numbered;
}

copies_to : (k : ℕ) (os : List Answered) (rs qs : List Reply) → AreCopies rs qs → AreRepliesTo k os rs → AreRepliesTo k os qs
copies_to k [] [] [] h g = tt
copies_to k [] [] (q ∷ qs) h g = absurd h
copies_to k [] (r ∷ rs) qs h g = absurd g
copies_to k (o ∷ os) [] qs h g = absurd g
copies_to k (o ∷ os) (r ∷ rs) [] h g = absurd h
copies_to k (o ∷ os) (r ∷ rs) (q ∷ qs) h g = (copy_to k o r q h.0 g.0, copies_to (suc k) os rs qs h.1 g.1)

-- of two parts
record Parts (front ends qs : List Reply) : Type 0 where
  first : List Reply
  others : List Reply
  whole : qs ≡ first ++ others
  firsts : AreCopies front first
  copies : AreCopies ends others

parts_of : (front ends qs : List Reply) → AreCopies (front ++ ends) qs → Parts front ends qs
parts_of [] ends qs h = record { first = []; others = qs; whole = refl; firsts = tt; copies = h }
parts_of (r ∷ front) ends [] h = absurd h
parts_of (r ∷ front) ends (q ∷ qs) h =
    let p = parts_of front ends qs h.1 in
    record { first = q ∷ p.first; others = p.others; whole = ap (λ l. q ∷ l) p.whole; firsts = (h.0, p.firsts); copies = p.copies }

copies_end : (n : ℕ) (last : Option (Fault Place)) (rs qs : List Reply) → AreCopies rs qs → EndWith n last rs → EndWith n last qs
copies_end n last rs qs h e =
    let p = parts_of e.front e.ends qs (subst (λ l. AreCopies l qs) e.whole h) in
    record { front = p.first; ends = p.others; whole = p.whole; many = copies_length e.front p.first p.firsts ∙ e.many; to_last = copies_to (suc n) (with_last [] last) e.ends p.others p.copies e.to_last }

pub copies_complete : (bytes : List ℕ) (rs qs : List Reply) → AreCopies rs qs → AreComplete bytes rs → AreComplete bytes qs
copies_complete bytes rs qs h c =
    let n = length c.spelt.tops in
    record {
      declarations = c.declarations;
      last = c.last;
      spelt = c.spelt;
      replies = record {
        number = copies_length rs qs h ∙ c.replies.number;
        numbered = copies_numbered 1 rs qs h c.replies.numbered;
        ended = copies_end n c.last rs qs h c.replies.ended;
      };
    }

pub copies_push : (rs qs : List Reply) (r q : Reply) → AreCopies rs qs → IsCopy r q → AreCopies (rs ++ r ∷ []) (qs ++ q ∷ [])
copies_push [] [] r q h k = (k, tt)
copies_push [] (x ∷ qs) r q h k = absurd h
copies_push (x ∷ rs) [] r q h k = absurd h
copies_push (x ∷ rs) (y ∷ qs) r q h k = (h.0, copies_push rs qs r q h.1 k)

-- units

-- up to one more
pub units_more : (xs : List ProjectUnit) (i : ℕ) (x : ProjectUnit) → i < length xs → x ≡ get_or xs i x → map unit_text_of (take (i + 1) xs) ≡ map unit_text_of (take i xs) ++ unit_text_of x ∷ []
units_more xs i x h e = map_more unit_text_of xs i x h ∙ ap (λ y. map unit_text_of (take i xs) ++ unit_text_of y ∷ []) (sym e)

pub complete_push : (us : List UnitText) (rs : List UnitReplies) (u : UnitText) (r : UnitReplies) → AreAllComplete us rs → IsComplete u r → AreAllComplete (us ++ u ∷ []) (rs ++ r ∷ [])
complete_push [] [] u r h k = (k, tt)
complete_push [] (x ∷ rs) u r h k = absurd h
complete_push (x ∷ us) [] u r h k = absurd h
complete_push (x ∷ us) (y ∷ rs) u r h k = (h.0, complete_push us rs u r h.1 k)

pub one_more : (us : List UnitText) (old new : Checked) (u : UnitText) → length old.kept.items < length us → u ≡ get_or us (length old.kept.items) u
    → IsMadeOf us old → length new.kept.items ≡ length old.kept.items + 1 → IsOneMore old new u → IsMadeOf us new
one_more us old new u less at h done m =
    let k = length old.kept.items in
    let more : take (length new.kept.items) us ≡ take k us ++ u ∷ [] = ap (λ n. take n us) done ∙ take_more us k u less ∙ ap (λ x. take k us ++ x ∷ []) (sym at) in
    record {
      texts = ap (λ (ss : Vec Source Global). texts_of ss.items) m.sources ∙ h.texts;
      replies = subst (λ l. AreAllComplete l new.replies.units.items) (sym more)
          (subst (AreAllComplete (take k us ++ u ∷ [])) (sym m.units) (complete_push (take k us) old.replies.units.items u m.added h.replies m.complete));
    }

first_text : {s t : List ℕ} {ss ts : List (List ℕ)} → s ∷ ss ≡ t ∷ ts → s ≡ t
first_text e = cc

rest_texts : {s t : List ℕ} {ss ts : List (List ℕ)} → s ∷ ss ≡ t ∷ ts → ss ≡ ts
rest_texts e = cc

some_is : {X : Type 0} {x y : X} → Some x ≡ Some y → x ≡ y
some_is e = cc

-- what was made of the unit at k
pub complete_at : (k m : ℕ) (us : List UnitText) (ss : List Source) (rs : List UnitReplies) (s : Source) (r : UnitReplies) → texts_of ss ≡ map (λ u. u.text) us → AreAllComplete (take m us) rs
    → slice_get ss k ≡ Some s → slice_get rs k ≡ Some r → AreComplete s.text.items r.replies.items
complete_at k m us [] rs s r e h f g = absurd cc
complete_at k m us (x ∷ ss) [] s r e h f g = absurd cc
complete_at k m [] (x ∷ ss) (y ∷ rs) s r e h f g = absurd cc
complete_at k zero (u ∷ us) (x ∷ ss) (y ∷ rs) s r e h f g = absurd h
complete_at zero (suc m) (u ∷ us) (x ∷ ss) (y ∷ rs) s r e h f g =
    subst (λ (z : UnitReplies). AreComplete s.text.items z.replies.items) (some_is g)
    (subst (λ t. AreComplete t y.replies.items) (sym (first_text e) ∙ ap (λ (z : Source). z.text.items) (some_is f)) h.0.1)
complete_at (suc k) (suc m) (u ∷ us) (x ∷ ss) (y ∷ rs) s r e h f g = complete_at k m us ss rs s r (rest_texts e) h.1 f g

-- all of a project
pub made_whole : (p : Project) (c : Checked) → IsMadeOf (unit_texts p) c → length c.kept.items ≡ vec_len p.units → AreAllComplete (unit_texts p) c.replies.units.items
made_whole p c made done =
    let us = unit_texts p in
    let many : length c.kept.items ≡ length us = done ∙ p.units.ok.0 ∙ sym (length-map p.units.items unit_text_of) in
    subst (λ l. AreAllComplete l c.replies.units.items) (ap (λ k. take k us) many ∙ take-length us) made.replies
