-- One mark after another, and the runs of contexts.
use Rattle.std.proofs.Common.{◌≡◌, ℕ, zero, suc, ◌+◌, ◌-◌, ◌<◌, ◌≤◌, lit≤, min, inl, inr, List, [], ◌∷◌, ◌++◌, get_or, drop, length, replicate, reverse, refl, sym, ap, ◌∙◌, arith, append_assoc, append-nil}
use Rattle.std.specs.List.{cons_option}
use Rattle.std.specs.Prelude.{Option, Some, None}
use Rattle.std.proofs.lemmas.Bool.{cases_lt}
use Rattle.std.proofs.lemmas.List.{drop_more, get_or_past, length-reverse, replicate-append-replicate}
use Rattle.sml_read.specs.declared.grammar.Node.{Node}
use Rattle.sml_read.specs.declared.grammar.Node.TheVariants.{Leaf, Inner}
use Rattle.sml_read.specs.declared.grammar.Rule.{Rule}
use Rattle.sml_read.specs.Grammar.{right_side}
use Rattle.sml_flaws.specs.declared.role.Role.{Role}
use Rattle.sml_flaws.specs.declared.role.Role.TheVariants.{Same}
use Rattle.sml_flaws.specs.declared.role.Entry.TheVariants.{Nothing}
use Rattle.sml_flaws.specs.declared.mark.Context.{Context}
use Rattle.sml_flaws.specs.declared.mark.Mark.{Mark}
use Rattle.sml_flaws.specs.Roles.{roles_of, entry_of}
use Rattle.sml_flaws.specs.Marks.{entered, in_role, contexts_from, mark_at, parts_of, token_after, marks_of}

-- the contexts of parts

same_after : (roles : List Role) (c : Context) (i count : ℕ) → length roles ≤ i → contexts_from roles c i count ≡ replicate count c
same_after roles c i zero past = refl
same_after roles c i (suc count) past =
    ap (λ role. in_role role c ∷ contexts_from roles c (suc i) count) (get_or_past roles i Same past)
    ∙ ap (λ cs. c ∷ cs) (same_after roles c (suc i) count (omega arith))

pub after_roles : (roles : List Role) (c : Context) (i count : ℕ) → i ≡ min (length roles) count → contexts_from roles c i (count - i) ≡ replicate (count - length roles) c
after_roles roles c i count e =
    elim (cases_lt count (length roles)) [
      | inl few ↦
          let none : count - i ≡ 0 = omega (arith, e, few) in
          let no_more : 0 ≡ count - length roles = omega (arith, few) in
          ap (contexts_from roles c i) none ∙ ap (λ n. replicate n c) no_more
      | inr enough ↦
          let rest : count - i ≡ count - length roles = omega (arith, e, enough) in
          same_after roles c i (count - i) (omega (arith, e, enough)) ∙ ap (λ n. replicate n c) rest
    ]

pub plain_parts : (i n : ℕ) (c : Context) (rule : Rule) (count : ℕ) (others : List Context) → entry_of rule ≡ Nothing → roles_of rule ≡ [] → replicate (count + length (reverse (right_side rule))) c ++ others ≡ parts_of i n c (Inner rule) ++ (replicate count c ++ others)
plain_parts i n c rule count others entry roles =
    let parts = length (right_side rule) in
    let e : count + length (reverse (right_side rule)) ≡ parts + count = omega (arith, length-reverse (right_side rule)) in
    ap (λ k. replicate k c ++ others) e
    ∙ ap (λ cs. cs ++ others) (sym (replicate-append-replicate parts count c))
    ∙ append_assoc (replicate parts c) (replicate count c) others
    ∙ ap (λ cs. cs ++ (replicate count c ++ others)) (sym (same_after [] c 0 parts (lit≤ tt)))
    ∙ ap (λ o. contexts_from [] (entered o i n c) 0 parts ++ (replicate count c ++ others)) (sym entry)
    ∙ ap (λ roles. contexts_from roles (entered (entry_of rule) i n c) 0 parts ++ (replicate count c ++ others)) (sym roles)

-- one mark on

two_marks : (mark : Option Mark) (more : List Mark) → cons_option mark [] ++ more ≡ cons_option mark more
two_marks None more = refl
two_marks (Some mark) more = refl

pub mark_on : (all old new : List Mark) (i n m : ℕ) (c : Context) (contexts before after : List Context) (nodes : List Node) → all ≡ old ++ marks_of i n before (drop i nodes) → i < length nodes → before ≡ c ∷ contexts → new ≡ old ++ cons_option (mark_at n c (get_or nodes i Leaf)) [] → after ≡ parts_of i n c (get_or nodes i Leaf) ++ contexts → m ≡ token_after n (get_or nodes i Leaf) → all ≡ new ++ marks_of (i + 1) m after (drop (i + 1) nodes)
mark_on all old new i n m c contexts before after nodes kept within b t a k =
    let node = get_or nodes i Leaf in
    let e : i + 1 ≡ suc i = omega arith in
    let more = marks_of (suc i) (token_after n node) (parts_of i n c node ++ contexts) (drop (i + 1) nodes) in
    kept ∙ ap (λ cs. old ++ marks_of i n cs (drop i nodes)) b
    ∙ ap (λ ns. old ++ marks_of i n (c ∷ contexts) ns) (drop_more nodes i Leaf within)
    ∙ ap (λ ms. old ++ ms) (sym (two_marks (mark_at n c node) more))
    ∙ sym (append_assoc old (cons_option (mark_at n c node) []) more)
    ∙ ap (λ ms. ms ++ more) (sym t)
    ∙ ap (λ k. new ++ marks_of k (token_after n node) (parts_of i n c node ++ contexts) (drop (i + 1) nodes)) (sym e)
    ∙ ap (λ cs. new ++ marks_of (i + 1) (token_after n node) cs (drop (i + 1) nodes)) (sym a)
    ∙ ap (λ n. new ++ marks_of (i + 1) n after (drop (i + 1) nodes)) (sym k)

pub none_to_come : (i n : ℕ) (nodes : List Node) → marks_of i n [] nodes ≡ []
none_to_come i n [] = refl
none_to_come i n (node ∷ nodes) = refl

pub marks_end : (all old : List Mark) (i n : ℕ) (contexts : List Context) (nodes : List Node) → all ≡ old ++ marks_of i n contexts nodes → contexts ≡ [] → old ≡ all
marks_end all old i n contexts nodes kept e = sym (kept ∙ ap (λ cs. old ++ marks_of i n cs nodes) e ∙ ap (λ ms. old ++ ms) (none_to_come i n nodes) ∙ append-nil old)

pub one_token : (n : ℕ) (node : Node) → token_after n node ≤ n + 1
one_token n Leaf = omega arith
one_token n (Inner rule) = omega arith
