use Rattle.std.proofs.Common.{◌+◌, ◌++◌, refl, sym, ap, ◌∙◌, subst, arith, inl, append-nil}
use Rattle.std.proofs.lemmas.List.{take_rest}
use Rattle.sml_lex.specs.Pieces.{IsPiece, IsFault}
use Rattle.sml_lex.proofs.Spelling.{carries_more, carried, place_on, none_there, token_there}
use Rattle.sml_lex.proofs.lexer.lex.Goals as goal

pub loop-place-preserved-in_ok-push-in-Ok : goal.loop-place-preserved-in_ok-push-in-Ok
loop-place-preserved-in_ok-push-in-Ok c =
    let p = subst (λ rest. IsPiece rest c.in-Ok.piece) (take_rest c.args.unit.now c.loop-place.place) c.in-Ok.ensures in
    let on = place_on c.args.unit.now c.loop-place.place c.size.result c.in-Ok.piece c.loop-place-test.true c.size.ensures p in
    let own = token_there c.loop-place.place c.size.result c.in-Ok.piece c.in-Lexeme.lexeme c.in-Lexeme.is c.size.ensures in record {
      carries = carries_more c.args.unit.now c.loop-place.place _ c.in-Ok.piece c.loop-place.tokens.items _ p (ap (λ n. c.loop-place.place + n) c.size.ensures) (c.in_ok-push-in-Ok.ensures.items ∙ ap (λ t. c.loop-place.tokens.items ++ t) own) c.loop-place.invariant.carries;
      within = on.1;
    }

pub loop-place-preserved : goal.loop-place-preserved
loop-place-preserved c =
    let p = subst (λ rest. IsPiece rest c.in-Ok.piece) (take_rest c.args.unit.now c.loop-place.place) c.in-Ok.ensures in
    let on = place_on c.args.unit.now c.loop-place.place c.size.result c.in-Ok.piece c.loop-place-test.true c.size.ensures p in record {
      carries = carries_more c.args.unit.now c.loop-place.place _ c.in-Ok.piece c.loop-place.tokens.items _ p (ap (λ n. c.loop-place.place + n) c.size.ensures) (sym (ap (λ t. c.loop-place.tokens.items ++ t) (none_there c.loop-place.place c.in-Ok.piece c.in_default.not-Lexeme) ∙ append-nil c.loop-place.tokens.items)) c.loop-place.invariant.carries;
      within = on.1;
    }

pub returns-in-Err : goal.returns-in-Err
returns-in-Err c =
    let f = subst (λ rest. IsFault rest c.in-Err.stop) (take_rest c.args.unit.now c.loop-place.place) c.in-Err.ensures in
    let w = carried _ _ _ _ c.loop-place.invariant.carries (c.loop-place-test.true, c.in-Err.stop, f, refl) in (
      refl,
      inl (record {
        within = c.if-unit-gt-MAX_UNIT.false;
        pieces = w.0;
        tokens_are = w.1;
        spelled = w.2;
      }),
    )

pub returns : goal.returns
returns c =
    let within = c.loop-place.invariant.within in
    let end = c.loop-place-test.false in
    let w = carried _ _ _ _ c.loop-place.invariant.carries (omega (arith, within, end)) in (
      refl,
      inl (record {
        within = c.if-unit-gt-MAX_UNIT.false;
        pieces = w.0;
        tokens_are = w.1;
        spelled = w.2;
      }),
    )

pub loop-place-smaller-in_ok-push-in-Ok : goal.loop-place-smaller-in_ok-push-in-Ok
loop-place-smaller-in_ok-push-in-Ok c =
    let p = subst (λ rest. IsPiece rest c.in-Ok.piece) (take_rest c.args.unit.now c.loop-place.place) c.in-Ok.ensures in
    let on = place_on c.args.unit.now c.loop-place.place c.size.result c.in-Ok.piece c.loop-place-test.true c.size.ensures p in
    let more = on.0 in
    let within = on.1 in
    omega (arith, more, within)

pub loop-place-smaller : goal.loop-place-smaller
loop-place-smaller c =
    let p = subst (λ rest. IsPiece rest c.in-Ok.piece) (take_rest c.args.unit.now c.loop-place.place) c.in-Ok.ensures in
    let on = place_on c.args.unit.now c.loop-place.place c.size.result c.in-Ok.piece c.loop-place-test.true c.size.ensures p in
    let more = on.0 in
    let within = on.1 in
    omega (arith, more, within)
