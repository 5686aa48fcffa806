-- Each arm does what its rule does.
use mathlib.Core.Path.{refl, ap, ◌∙◌}
use Rattle.rule_table.specs.declared.table.Rule.TheVariants.{Reader}
use Rattle.rules.proofs.RuleLaws.{chose, turns_by_rule}
use Rattle.rules.proofs.act.Goals as goal

pub fenced-requires : goal.fenced-requires
fenced-requires c =
    let p = c.requires in
    chose p.0 (p.1 ∙ ap Reader c.in-TripleBacktick.is) refl

pub language-requires : goal.language-requires
language-requires c =
    let p = c.requires in
    chose p.0 (p.1 ∙ ap Reader c.in-Lang.is) refl

pub char_lit-requires : goal.char_lit-requires
char_lit-requires c =
    let p = c.requires in
    chose p.0 (p.1 ∙ ap Reader c.in-CharLit.is) refl

pub comment_start-requires : goal.comment_start-requires
comment_start-requires c =
    let p = c.requires in
    chose p.0 (p.1 ∙ ap Reader c.in-CommentStart.is) refl

pub slashes-requires : goal.slashes-requires
slashes-requires c =
    let p = c.requires in
    chose p.0 (p.1 ∙ ap Reader c.in-LineComment.is) refl

pub literal-requires : goal.literal-requires
literal-requires c =
    let p = c.requires in
    (chose p.0 (p.1 ∙ ap Reader c.in-StringLit.is) refl, p.0.accepted)

pub returns-in-TripleBacktick : goal.returns-in-TripleBacktick
returns-in-TripleBacktick c =
    let p = c.requires in
    turns_by_rule p.0 (p.1 ∙ ap Reader c.in-TripleBacktick.is) _ (c.fenced.ensures _)

pub returns-in-Lang : goal.returns-in-Lang
returns-in-Lang c =
    let p = c.requires in
    turns_by_rule p.0 (p.1 ∙ ap Reader c.in-Lang.is) _ (c.language.ensures _)

pub returns-in-CharLit : goal.returns-in-CharLit
returns-in-CharLit c =
    let p = c.requires in
    turns_by_rule p.0 (p.1 ∙ ap Reader c.in-CharLit.is) _ (c.char_lit.ensures _)

pub returns-in-CommentStart : goal.returns-in-CommentStart
returns-in-CommentStart c =
    let p = c.requires in
    turns_by_rule p.0 (p.1 ∙ ap Reader c.in-CommentStart.is) _ (c.comment_start.ensures _ _)

pub returns-in-LineComment : goal.returns-in-LineComment
returns-in-LineComment c =
    let p = c.requires in
    turns_by_rule p.0 (p.1 ∙ ap Reader c.in-LineComment.is) _ (c.slashes.ensures _ _)

pub returns-in-StringLit : goal.returns-in-StringLit
returns-in-StringLit c =
    let p = c.requires in
    turns_by_rule p.0 (p.1 ∙ ap Reader c.in-StringLit.is) _ c.literal.ensures

pub returns-in-Any : goal.returns-in-Any
returns-in-Any c =
    let p = c.requires in
    turns_by_rule p.0 (p.1 ∙ ap Reader c.in-Any.is) _ (c.error_here.ensures _)
