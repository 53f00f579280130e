use Rattle.std.proofs.Common.{◌++◌, ◌≡◌, ◌<◌, [], inl, inr, refl, sym, ap, ◌∙◌, length, subst}
use Rattle.sml_client.specs.Heads.{HasNoEnd, IsHead}
use Rattle.sml_client.specs.Streams.{TellsInHead, stream}
use Rattle.sml_client.proofs.Lines.{empty_more}
use Rattle.sml_client.proofs.Taking.{taken_after, takes_all, takes_before, takes_both, takes_first, takes_head, takes_none, takes_to}
use Rattle.sml_client.proofs.frames.next_frame.Goals as goal
use Rattle.sml_client.proofs.frames.next_frame.Goals.{in-Open+in_ok-fill-in-Open+else-not-branch, in-Blank+in_ok-take-in-Blank}

pub loop-init : goal.loop-init
loop-init g c = ([], takes_none _, ([], refl, tt))

pub returns-in-Whole : goal.returns-in-Whole
returns-in-Whole g c =
    let passed = c.loop.invariant.0 in
    let begun = c.in-Whole.ensures in
    let t = c.in_ok-take-in-Whole.field-0.items in
    let taken = takes_first c.in-Whole.size c.loop.held.bytes.items (g.I.In.remaining c.loop.input) t _ c.in_ok-take-in-Whole.ensures.taken c.in_ok-take-in-Whole.ensures.left in
    let same : t ≡ begun.1.head = takes_head c.in-Whole.size c.loop.held.bytes.items begun.1.head begun.1.rest t (sym c.deref.ensures.value ∙ begun.1.whole) begun.1.counted c.in_ok-take-in-Whole.ensures.taken in
    taken_after _ _ _ passed t c.in-Whole.length c.body.result (takes_both _ _ _ passed t c.loop.invariant.1 taken) c.loop.invariant.2
    (subst (λ h. TellsInHead h c.in-Whole.length) (sym same) (begun.0, begun.1.is_head, begun.2)) c.body.ensures

pub returns-in-Bad : goal.returns-in-Bad
returns-in-Bad g c =
    let passed = c.loop.invariant.0 in
    let bytes = c.loop.held.bytes.items in
    let t = c.in_ok-take-in-Bad.field-0.items in
    let cut = c.in_ok-take-in-Bad.ensures.taken in
    let all = takes_both _ _ _ passed t c.loop.invariant.1 (takes_first c.in-Bad.size bytes (g.I.In.remaining c.loop.input) t _ cut c.in_ok-take-in-Bad.ensures.left) in
    elim c.in-Bad.ensures [
      | inl h ↦
          let same : t ≡ h.1.head = takes_head c.in-Bad.size bytes h.1.head h.1.rest t (sym c.deref.ensures.value ∙ h.1.whole) h.1.counted cut in
          (passed, t, all, c.loop.invariant.2, inl (h.0, subst (λ x. IsHead x h.0) (sym same) h.1.is_head, h.2, h.3))
      | inr h ↦
          let same : t ≡ c.deref.result.now = takes_all c.in-Bad.size bytes t (h.2 ∙ ap length c.deref.ensures.value) cut ∙ sym c.deref.ensures.value in
          (passed, t, all, c.loop.invariant.2, inr (subst HasNoEnd (sym same) h.0, subst (λ x. 8192 < length x) (sym same) h.1))
    ]

pub loop-preserved : goal.loop-preserved
loop-preserved g c =
    let passed = c.loop.invariant.0 in
    elim c.match-head_of.branch [
      | in-Open+in_ok-fill-in-Open+else-not-branch w ↦ (
        passed,
        takes_to _ _ _ passed (λ i. stream (w.held-is i).bytes.items (g.I.In.remaining (w.input-is i)))
            (takes_before _ _ _ passed c.loop.invariant.1 w.in_ok-fill-in-Open.ensures),
        c.loop.invariant.2,
      )
      | in-Blank+in_ok-take-in-Blank w ↦ (
          let t = w.in_ok-take-in-Blank.field-0.items in
          let begun = w.in-Blank.ensures in
          let same : t ≡ begun.head = takes_head w.in-Blank.size c.loop.held.bytes.items begun.head begun.rest t (sym c.deref.ensures.value ∙ begun.whole) begun.counted w.in_ok-take-in-Blank.ensures.taken in (
            passed ++ t,
            takes_to _ _ _ (passed ++ t) (λ i. stream (w.held-is i).bytes.items (g.I.In.remaining (w.input-is i)))
                (takes_both _ _ _ passed t c.loop.invariant.1
                (takes_first w.in-Blank.size c.loop.held.bytes.items (g.I.In.remaining c.loop.input) t _ w.in_ok-take-in-Blank.ensures.taken w.in_ok-take-in-Blank.ensures.left)),
            empty_more passed t begun.is_head.last c.loop.invariant.2 (same ∙ begun.is_head.whole) begun.is_head.empty,
          )
          )
    ]

pub returns-then-not-branch : goal.returns-then-not-branch
returns-then-not-branch g c = c.end_of.ensures _ _
