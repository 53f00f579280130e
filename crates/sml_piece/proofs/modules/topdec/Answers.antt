use Rattle.std.proofs.Common.{◌≡◌, ◌≤◌, ◌+◌, ℕ, vec_len, arith, length, ap, sym, ◌∙◌, subst, Err, Vec, Global}
use Rattle.std.proofs.lemmas.List.{length-map}
use Rattle.sml_lex.specs.declared.fault.Code.TheVariants.{Q3}
use Rattle.sml_lex.specs.declared.fault.Warning.{Warning}
use Rattle.sml_lex.specs.Faults.{first_place}
use Rattle.sml_objects.specs.Objects as O
use Rattle.sml_objects.specs.Initial.{Name, naming}
use Rattle.sml_objects.specs.Views.{maker_of, name_of, sig_of}
use Rattle.sml_objects.specs.declared.objects.Basis.{Basis}
use Rattle.sml_rules.specs.Answers.{test, fault}
use Rattle.sml_rules.specs.Readings.{read_top}
use Rattle.sml_tree.specs.Views.{dec_of}
use Rattle.sml_rules.proofs.Sound.{readings_sound, tested}
use Rattle.sml_piece.proofs.Canonical.{top_of, few_new, never_many, numbered_is, numbered_top, numbered_own}
use Rattle.sml_piece.specs.Elaborated.{Answers}
use Rattle.sml_piece.proofs.Answering.{first_ends, second}
use Rattle.sml_piece.proofs.modules.topdec.Goals as goal

abbrev view : Basis × Vec Warning Global → O.Sig Name
view r = sig_of r.0

pub returns-in-Err-clause-reading : goal.returns-in-Err-clause-reading
unfolding read_top
returns-in-Err-clause-reading c = λ B basis. first_ends sig_of view _ _ c.in-Err.fault (c.in-Err.ensures.answer B basis)

pub returns-in-Err-few_names-clause-reading : goal.returns-in-Err-few_names-clause-reading
unfolding read_top
returns-in-Err-few_names-clause-reading c = λ B basis.
    let p = c.args.basis.now in
    let own = c.in-Ok.own in
    let S = sig_of own in
    let len : c.len.result ≡ length own.names.items = c.len.ensures ∙ own.names.ok.0 in
    let counts = ap (λ n. length p.names.items + n) len ∙ ap (λ n. n + length own.names.items) (sym basis.count_is) ∙ ap (λ n. B.count + n) (sym (length-map own.names.items name_of)) in
    second view _ _ S (Err c.in-Err-few_names.fault) (c.in-Ok.ensures.answer B basis)
    (first_ends (λ u. u) view _ _ c.in-Err-few_names.fault (subst (λ n. Answers (λ u. u) (Err c.in-Err-few_names.fault) (test (n ≤ 1048576) (fault Q3 first_place))) counts c.in-Err-few_names.ensures))

pub numbered-requires : goal.numbered-requires
numbered-requires c = let few = tested _ (fault Q3 first_place) tt c.in-Ok-few_names.ensures in omega (arith, few)

few_names : (p own : Basis) (n : ℕ) → n ≡ vec_len own.names → length p.names.items + n ≤ 1048576 → length p.names.items + length own.names.items ≤ 1048576
few_names p own n e h = let same : n ≡ length own.names.items = e ∙ own.names.ok.0 in omega (arith, h, same)

pub returns-in-Err-numbered-clause-reading : goal.returns-in-Err-numbered-clause-reading
returns-in-Err-numbered-clause-reading c = λ B basis.
    let p = c.args.basis.now in
    let own = c.in-Ok.own in
    let few = few_names p own c.len.result c.len.ensures (tested _ (fault Q3 first_place) tt c.in-Ok-few_names.ensures) in
    never_many view _ p own B basis (dec_of c.args.dec.now) (c.in-Ok.ensures.answer B basis) few c.in-Err-numbered.fault c.in-Err-numbered.ensures.answer

pub returns-in-Ok-numbered-clause-reading : goal.returns-in-Ok-numbered-clause-reading
returns-in-Ok-numbered-clause-reading c = λ B basis.
    let p = c.args.basis.now in
    let own = c.in-Ok.own in
    let d = dec_of c.args.dec.now in
    let few = few_names p own c.len.result c.len.ensures (tested _ (fault Q3 first_place) tt c.in-Ok-few_names.ensures) in
    let top = top_of p own B basis d (c.in-Ok.ensures.answer B basis) few in
    let sig = numbered_is (maker_of p.unit) (length p.names.items) (sig_of own) (sig_of c.in-Ok-numbered.own) c.in-Ok-numbered.ensures.answer in
    numbered_top p own c.in-Ok-numbered.own B basis d top sig

pub returns-in-Ok-numbered-clause-sound : goal.returns-in-Ok-numbered-clause-sound
returns-in-Ok-numbered-clause-sound c = λ B basis.
    let p = c.args.basis.now in
    let own = c.in-Ok.own in
    let d = dec_of c.args.dec.now in
    let few = few_names p own c.len.result c.len.ensures (tested _ (fault Q3 first_place) tt c.in-Ok-few_names.ensures) in
    let top = top_of p own B basis d (c.in-Ok.ensures.answer B basis) few in
    let sig = numbered_is (maker_of p.unit) (length p.names.items) (sig_of own) (sig_of c.in-Ok-numbered.own) c.in-Ok-numbered.ensures.answer in
    readings_sound naming first_place (maker_of p.unit) B d (sig_of c.in-Ok-numbered.own) (numbered_top p own c.in-Ok-numbered.own B basis d top sig)

pub returns-in-Ok-numbered-clause-canonical : goal.returns-in-Ok-numbered-clause-canonical
returns-in-Ok-numbered-clause-canonical c = λ B basis.
    let p = c.args.basis.now in
    let own = c.in-Ok.own in
    let d = dec_of c.args.dec.now in
    let few = few_names p own c.len.result c.len.ensures (tested _ (fault Q3 first_place) tt c.in-Ok-few_names.ensures) in
    let top = top_of p own B basis d (c.in-Ok.ensures.answer B basis) few in
    (sig_of own, top, numbered_is (maker_of p.unit) (length p.names.items) (sig_of own) (sig_of c.in-Ok-numbered.own) c.in-Ok-numbered.ensures.answer)

pub returns-in-Ok-numbered-clause-own : goal.returns-in-Ok-numbered-clause-own
returns-in-Ok-numbered-clause-own c = λ B basis.
    let p = c.args.basis.now in
    let own = c.in-Ok.own in
    let sig = numbered_is (maker_of p.unit) (length p.names.items) (sig_of own) (sig_of c.in-Ok-numbered.own) c.in-Ok-numbered.ensures.answer in
    numbered_own p own c.in-Ok-numbered.own (c.in-Ok.ensures.names B basis) sig c.in-Ok-numbered.ensures.unit (few_new p own B basis (dec_of c.args.dec.now) (c.in-Ok.ensures.answer B basis))
