-- What is taken of a stream, step by step.
use Rattle.std.proofs.Common.{◌≡◌, ◌++◌, ◌<◌, ℕ, length, List, [], take, drop, Option, Some, None, Result, Ok, Err, IfOk, OnOk, refl, ap, sym, subst, ◌∙◌, append_assoc, arith}
use Rattle.std.specs.Io.KnownBytes.{Consumes, Keeps}
use Rattle.sml_reply.proofs.Sinks.{parted}
use Rattle.std.proofs.lemmas.List.{take_all, take_at}
use Rattle.sml_client.specs.Streams.{AreEmptyLines, IsSkipped, IsTaken, IsTakenAfter, TellsInHead, stream}
use Rattle.sml_client.specs.declared.frames.Frame.{Frame}
use Rattle.sml_client.specs.declared.frames.Frame.TheVariants.{Body, NoLength, TooLarge, Ended, CutOff}

pub keeps_all : (a : Option (List ℕ)) → Keeps a a
keeps_all None = tt
keeps_all (Some xs) = refl

pub keeps_on : (a b d : Option (List ℕ)) → Keeps a b → Keeps b d → Keeps a d
keeps_on None b d h k = tt
keeps_on (Some x) None d h k = absurd h
keeps_on (Some x) (Some y) None h k = absurd k
keeps_on (Some x) (Some y) (Some z) h k = k ∙ h

pub takes_none : (a : Option (List ℕ)) → Consumes a a []
takes_none None = tt
takes_none (Some xs) = refl

pub takes_after : (a b d : Option (List ℕ)) (xs : List ℕ) → Keeps a b → Consumes b d xs → Consumes a d xs
takes_after None b d xs h k = tt
takes_after (Some x) None d xs h k = absurd h
takes_after (Some x) (Some y) None xs h k = absurd k
takes_after (Some x) (Some y) (Some z) xs h k = sym h ∙ k

pub takes_before : (a b d : Option (List ℕ)) (xs : List ℕ) → Consumes a b xs → Keeps b d → Consumes a d xs
takes_before None b d xs h k = tt
takes_before (Some x) None d xs h k = absurd h
takes_before (Some x) (Some y) None xs h k = absurd k
takes_before (Some x) (Some y) (Some z) xs h k = h ∙ ap (λ l. xs ++ l) (sym k)

pub takes_both : (a b d : Option (List ℕ)) (xs ys : List ℕ) → Consumes a b xs → Consumes b d ys → Consumes a d (xs ++ ys)
takes_both None b d xs ys h k = tt
takes_both (Some x) None d xs ys h k = absurd h
takes_both (Some x) (Some y) None xs ys h k = absurd k
takes_both (Some x) (Some y) (Some z) xs ys h k = h ∙ ap (λ l. xs ++ l) k ∙ sym (append_assoc xs ys z)

pub takes_first : (n : ℕ) (bytes : List ℕ) (left : Option (List ℕ)) (xs ys : List ℕ) → xs ≡ take n bytes → ys ≡ drop n bytes → Consumes (stream bytes left) (stream ys left) xs
takes_first n bytes None xs ys e f = tt
takes_first n bytes (Some zs) xs ys e f =
    let whole : bytes ≡ xs ++ ys = parted n bytes ∙ ap (λ l. l ++ drop n bytes) (sym e) ∙ ap (λ l. xs ++ l) (sym f) in
    ap (λ l. l ++ zs) whole ∙ append_assoc xs ys zs

pub takes_to : (a b d : Option (List ℕ)) (xs : List ℕ) → b ≡ d → Consumes a d xs → Consumes a b xs
takes_to a b d xs e h = subst (λ s. Consumes a s xs) (sym e) h

-- a frame that is taken after its head, which stands after empty lines
pub taken_after : {E : Type 0} (a b d : Option (List ℕ)) (passed head : List ℕ) (n : ℕ) (r : Result Frame E) → Consumes a b (passed ++ head) → AreEmptyLines passed → TellsInHead head n
    → IfOk r (IsTakenAfter n b d) → IfOk r (IsTaken a d)
taken_after a b d passed head n (Ok (Body x)) h e t k = (passed, head, takes_both a b d (passed ++ head) x.items h k.0, e, subst (TellsInHead head) (sym k.1) t)
taken_after a b d passed head n (Ok NoLength) h e t k = absurd k
taken_after a b d passed head n (Ok TooLarge) h e t k = (passed, head, k.0, n, takes_both a b d (passed ++ head) k.0 h k.1, e, t, k.2)
taken_after a b d passed head n (Ok Ended) h e t k = tt
taken_after a b d passed head n (Ok CutOff) h e t k = tt
taken_after a b d passed head n (Err x) h e t k = tt

-- a frame that is too large is passed over
pub skipped_after : {E : Type 0} (a d : Option (List ℕ)) (n : ℕ) (r : Result Frame E) → 16777216 < n → IfOk r (IsSkipped a d) → IfOk r (IsTakenAfter n a d)
skipped_after a d n (Ok (Body x)) h k = absurd k
skipped_after a d n (Ok NoLength) h k = absurd k
skipped_after a d n (Ok TooLarge) h k = (k.0, k.1, h)
skipped_after a d n (Ok Ended) h k = tt
skipped_after a d n (Ok CutOff) h k = tt
skipped_after a d n (Err x) h k = tt

-- the first bytes of a stream that begins with a head
pub takes_head : (n : ℕ) (bytes head rest : List ℕ) (taken : List ℕ) → bytes ≡ head ++ rest → n ≡ length head → taken ≡ take n bytes → taken ≡ head
takes_head n bytes head rest taken e f g = g ∙ ap (take n) e ∙ take_at head rest n (sym f)

pub takes_all : (n : ℕ) (bytes taken : List ℕ) → n ≡ length bytes → taken ≡ take n bytes → taken ≡ bytes
takes_all n bytes taken e f = f ∙ ap (λ k. take k bytes) e ∙ take_all (length bytes) bytes (omega arith)

pub on_ok : {X E P Q : Type 0} (r : Result X E) → (P → Q) → OnOk r P → OnOk r Q
on_ok (Ok x) f h = f h
on_ok (Err e) f h = tt
