use Rattle.std.proofs.Common.{◌≡◌, ap, sym, ◌∙◌, ◌++◌, ◌∷◌, []}
use Rattle.std.specs.Map.{lookup}
use Rattle.indexmap.proofs.CallerLemmas.{insert_entry-new}
use Rattle.sml_objects.specs.Views.{name_of, scheme_of}
use Rattle.sml_objects.proofs.NameTests.{eq}
use Rattle.sml_piece.specs.Elaborated.{or_else}
use Rattle.sml_piece.specs.CodeMatched.{sends, alone}
use Rattle.sml_piece.proofs.Realising.{sent_already, sent_last, none_of}
use Rattle.sml_piece.proofs.realisations.Realisation.send.Goals as goal

pub returns-then-contains_key : goal.returns-then-contains_key
returns-then-contains_key c = λ n.
    sent_already c.args.self.now.functions.entries c.args.name (scheme_of c.args.function.now.value) (sym c.if-contains_key.ensures) n

pub returns : goal.returns
returns c = λ n.
    let es = c.args.self.now.functions.entries in
    let k = c.args.name in
    let v = c.in_ok-clone.field-0 in
    let more : c.insert.new.self.entries ≡ es ++ (k, v) ∷ [] = c.in_ok-insert.ensures.entries ∙ insert_entry-new eq c.args.self.now.functions k v (none_of (lookup (eq k) es) (sym c.if-contains_key.ensures)) in
    ap (λ l. sends l n) more ∙ sent_last es k v n ∙ ap (λ s. or_else (sends es n) (alone (name_of k) (scheme_of s) n)) c.in_ok-clone.ensures.cases
