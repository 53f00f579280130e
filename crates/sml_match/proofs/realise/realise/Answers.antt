use Rattle.std.proofs.Common.{◌++◌, [], length, map, refl, ap, sym, ◌∙◌, arith}
use Rattle.std.proofs.lemmas.List.{take_all}
use Rattle.sml_objects.specs.Appearance.{stands}
use Rattle.sml_objects.specs.Initial.{naming}
use Rattle.sml_objects.specs.Views.{name_of}
use Rattle.sml_module_rules.specs.Lines.{lines}
use Rattle.sml_module_rules.specs.Matching.{read_realisation}
use Rattle.sml_module_rules.specs.Realising.{no_function}
use Rattle.sml_bases.specs.Views.{env_of}
use Rattle.sml_types.specs.Answered.{env_at}
use Rattle.sml_match.specs.Searches.{given_by, given_so_far, reading}
use Rattle.sml_match.specs.declared.realise.Search.{Search}
use Rattle.sml_match.proofs.Held.{at-start}
use Rattle.sml_match.proofs.Refusals.{all-read, not-all-read, refused-at}
use Rattle.sml_match.proofs.Sought.{one-further}
use Rattle.sml_match.proofs.Walks.{refused-too}
use Rattle.sml_match.proofs.realise.realise.Goals as goal

pub loop-name-preserved : goal.loop-name-preserved
loop-name-preserved c =
    let t = c.loop-name-test.true in
    let l = c.deref-name-items.ensures.len in
    record {
      sought = λ n. one-further n c.loop-name.bound.keys c.insert.new.self.keys c.deref-name-items.result.now c.args.sig.now.names.items c.deref-name-items.ensures.value c.loop-name.name-index _ _
          c.in_ok-insert.ensures.keys (omega (arith, t, l)) refl (c.loop-name.invariant.sought n);
    }

pub returns-in_err-realise_env : goal.returns-in_err-realise_env
returns-in_err-realise_env c = λ p known.
    let E = env_of c.args.env.now in
    let items = c.args.sig.now.names.items in
    let ns = map name_of items in
    let t = c.loop-name-test.false in
    let l = c.deref-name-items.ensures.len in
    let m = ap (λ q. length q) c.deref-name-items.ensures.value in
    let whole = take_all c.loop-name.name-index items (omega (arith, t, l, m)) in
    let old : Search = record { way = c.new.result; bound = c.loop-name.bound; realisation = c.new-2.result } in
    let f = c.in_err-realise_env.field-0.0 in
    refused-at given_by p c.from_residual-in_err-realise_env.result f (read_realisation naming p ns E (no_function naming) (lines [] (env_of c.args.sig.now.env.value)))
    c.from_residual-in_err-realise_env.ensures.1
    (not-all-read p ns E f old (lines [] (env_of c.args.sig.now.env.value))
    (λ rest. refused-too p f _ _ (λ i. reading p ns E (given_so_far old) (lines (sym c.new.ensures i) (env_of (sym c.deref.ensures i)) ++ rest))
    (c.in_err-realise_env.ensures.read p ns E (λ n. c.loop-name.invariant.sought n ∙ ap (λ q. stands naming n (map name_of q)) whole) known (ap (env_at E) c.new.ensures ∙ at-start E) rest))
    c.new-2.ensures)

pub returns : goal.returns
returns c = λ p known.
    let E = env_of c.args.env.now in
    let items = c.args.sig.now.names.items in
    let ns = map name_of items in
    let t = c.loop-name-test.false in
    let l = c.deref-name-items.ensures.len in
    let m = ap (λ q. length q) c.deref-name-items.ensures.value in
    let whole = take_all c.loop-name.name-index items (omega (arith, t, l, m)) in
    let old : Search = record { way = c.new.result; bound = c.loop-name.bound; realisation = c.new-2.result } in
    all-read p ns E old c.realise_env.new.search (lines [] (env_of c.args.sig.now.env.value)) c.in_ok-realise_env.field-0
    (λ rest. (λ i. reading p ns E (given_so_far old) (lines (sym c.new.ensures i) (env_of (sym c.deref.ensures i)) ++ rest))
    ∙ c.in_ok-realise_env.ensures.read p ns E (λ n. c.loop-name.invariant.sought n ∙ ap (λ q. stands naming n (map name_of q)) whole) known (ap (env_at E) c.new.ensures ∙ at-start E) rest)
    c.new-2.ensures
