use Rattle.std.proofs.Common.{◌≡◌, ◌+◌, ◌∙◌, refl, arith, [], true, false}
use Rattle.std.proofs.lemmas.List.{drop-append-le}
use Rattle.html_tokens.specs.Tokens.{piece, token}
use Rattle.html_tokens.specs.declared.comment.CommentKind.TheVariants.{Declared, Bogus}
use Rattle.html_tokens.specs.declared.token.Begin.TheVariants as begins
use Rattle.html_tokens.specs.declared.token.TokenKind.TheVariants as kinds
use Rattle.html_tokens.proofs.BoundLemmas.{tag_begun, doctype_begun}
use Rattle.html_tokens.proofs.TagLemmas.{tag_opens}
use Rattle.html_tokens.proofs.DoctypeLemmas.{doctype_opens}
use Rattle.html_tokens.proofs.StepLemmas.{comment_begins, comment_opens, empty_passed, errors_passed, open_more, open_gives, passes_to}
use Rattle.html_tokens.proofs.ToldLemmas.{opens_told, tells_decided}
use Rattle.html_tokens.proofs.machine.Machine.opened.Goals as goal

pub returns-in-Empty-clause-steps : goal.returns-in-Empty-clause-steps
returns-in-Empty-clause-steps c =
    let is = rw c.in-Empty.is at c.requires.found in
    let some = rw c.in-Empty.is at c.requires.some in
    let fit = rw c.in-Empty.is at c.requires.fit in
    rw c.enter.ensures
    (open_more _ _ c.args.region 3 _ c.requires.state (passes_to _ _ 3 _ _ c.pass.ensures) some fit (λ e. e)
    (λ more switches h. empty_passed _ begins.Markup c.args.region _ _ _ 3 _ more switches (c.requires.markup more h) refl (rw (is more h) refl) some fit)
    (λ more switches h. errors_passed _ begins.Markup c.args.region _ _ _ 3 _ more switches (piece [] 3) (c.requires.markup more h) refl (rw (is more h) refl) refl some fit (rw (is more h) refl)))

pub returns-in-Comment-clause-steps : goal.returns-in-Comment-clause-steps
returns-in-Comment-clause-steps c =
    let is = rw c.in-Comment.is at c.requires.found in
    let some = rw c.in-Comment.is at c.requires.some in
    let fit = rw c.in-Comment.is at c.requires.fit in
    open_more _ _ c.args.region 4 _ c.requires.state c.begin_comment.ensures some fit (λ e. e)
    (λ more switches h. comment_begins _ c.args.region _ Declared 4 _ _ _ more switches (c.requires.markup more h) (rw (is more h) refl) some fit)
    (λ more switches h. comment_opens _ c.args.region _ Declared 4 _ _ _ more switches (c.requires.markup more h) (rw (is more h) refl) some fit (rw (is more h, drop-append-le 4 _ more fit) refl))

pub returns-in-Bogus-clause-steps : goal.returns-in-Bogus-clause-steps
returns-in-Bogus-clause-steps c =
    let is = rw c.in-Bogus.is at c.requires.found in
    let some = rw c.in-Bogus.is at c.requires.some in
    let fit = rw c.in-Bogus.is at c.requires.fit in
    let k = c.in-Bogus.opened in
    open_more _ _ c.args.region k _ c.requires.state c.begin_comment-in-Bogus.ensures some fit (λ e. e)
    (λ more switches h. comment_begins _ c.args.region _ Bogus k _ _ _ more switches (c.requires.markup more h) (rw (is more h) refl) some fit)
    (λ more switches h. comment_opens _ c.args.region _ Bogus k _ _ _ more switches (c.requires.markup more h) (rw (is more h) refl) some fit (rw (is more h, drop-append-le k _ more fit) refl))

pub returns-in-ShortComment-clause-steps : goal.returns-in-ShortComment-clause-steps
returns-in-ShortComment-clause-steps c =
    let is = rw c.in-ShortComment.is at c.requires.found in
    let some = rw c.in-ShortComment.is at c.requires.some in
    let fit = rw c.in-ShortComment.is at c.requires.fit in
    let k = c.in-ShortComment.len in
    let t = c.args.self.now in
    let given : c.token.result ≡ token (kinds.Comment []) t.place (t.place + k) = c.token.ensures ∙ rw (c.new-data.ensures, c.enter-in-ShortComment.ensures, c.pass-in-ShortComment.ensures.place) refl in
    rw (given, c.enter-in-ShortComment.ensures)
    (open_gives _ _ c.args.region begins.Markup (token (kinds.Comment []) t.place (t.place + k)) k c.requires.state (passes_to _ _ k _ _ c.pass-in-ShortComment.ensures) some fit
    (λ switch mode. refl) (λ name. refl) refl c.requires.markup (λ more h. rw (is more h) refl) (λ more h. rw (is more h) refl))

pub returns-in-Literal-clause-steps : goal.returns-in-Literal-clause-steps
returns-in-Literal-clause-steps c =
    let is = rw c.in-Literal.is at c.requires.found in
    let some = rw c.in-Literal.is at c.requires.some in
    let fit = rw c.in-Literal.is at c.requires.fit in
    let t = c.args.self.now in
    let gave = c.less_given.ensures in
    rw gave.0
    (open_gives _ _ c.args.region begins.Markup (token (kinds.Char 60) t.place (t.place + 1)) 1 c.requires.state gave.1 some fit
    (λ switch mode. refl) (λ name. refl) refl c.requires.markup (λ more h. rw (is more h) refl) (λ more h. rw (is more h) refl))

pub returns-in-StartTag-clause-steps : goal.returns-in-StartTag-clause-steps
returns-in-StartTag-clause-steps c =
    let is = rw c.in-StartTag.is at c.requires.found in
    let some = rw c.in-StartTag.is at c.requires.some in
    let fit = rw c.in-StartTag.is at c.requires.fit in
    tag_opens _ _ begins.Markup c.args.region false 1 c.requires.state c.begin_tag.ensures some fit c.requires.markup refl (λ more h. rw (is more h) refl) (λ more h. rw (is more h) refl)

pub returns-in-EndTag-clause-steps : goal.returns-in-EndTag-clause-steps
returns-in-EndTag-clause-steps c =
    let is = rw c.in-EndTag.is at c.requires.found in
    let some = rw c.in-EndTag.is at c.requires.some in
    let fit = rw c.in-EndTag.is at c.requires.fit in
    tag_opens _ _ begins.Markup c.args.region true 2 c.requires.state c.begin_tag-in-EndTag.ensures some fit c.requires.markup refl (λ more h. rw (is more h) refl) (λ more h. rw (is more h) refl)

pub returns-in-StartTag-clause-bounded : goal.returns-in-StartTag-clause-bounded
returns-in-StartTag-clause-bounded c = tag_begun c.args.self.now c.begin_tag.new.self c.args.region false 1 1 c.args.faults.now c.tell_some.new.self c.requires.state c.begin_tag.ensures c.tell_some.ensures.told (omega arith) (omega arith)

pub returns-in-Doctype-clause-steps : goal.returns-in-Doctype-clause-steps
returns-in-Doctype-clause-steps c =
    let is = rw c.in-Doctype.is at c.requires.found in
    let fit = rw c.in-Doctype.is at c.requires.fit in
    doctype_opens _ _ c.args.region c.requires.state c.begin_doctype.ensures fit c.requires.markup is

pub returns-in-Doctype-clause-bounded : goal.returns-in-Doctype-clause-bounded
returns-in-Doctype-clause-bounded c = doctype_begun c.args.self.now c.begin_doctype.new.self c.args.region 1 c.args.faults.now c.tell_some.new.self c.requires.state c.begin_doctype.ensures c.tell_some.ensures.told (omega arith)

pub returns-in-Empty-clause-tells : goal.returns-in-Empty-clause-tells
returns-in-Empty-clause-tells c = tells_decided c.args.self.now _ c.args.faults.now c.tell_some.new.self (opens_told c.args.self.now c.args.region _ _ c.requires.state c.requires.markup c.requires.found c.requires.told (omega (arith, c.requires.some, c.requires.fit))) c.tell_some.ensures.opens

pub returns-in-Comment-clause-tells : goal.returns-in-Comment-clause-tells
returns-in-Comment-clause-tells c = tells_decided c.args.self.now _ c.args.faults.now c.tell_some.new.self (opens_told c.args.self.now c.args.region _ _ c.requires.state c.requires.markup c.requires.found c.requires.told (omega (arith, c.requires.some, c.requires.fit))) c.tell_some.ensures.opens

pub returns-in-Bogus-clause-tells : goal.returns-in-Bogus-clause-tells
returns-in-Bogus-clause-tells c = tells_decided c.args.self.now _ c.args.faults.now c.tell_some.new.self (opens_told c.args.self.now c.args.region _ _ c.requires.state c.requires.markup c.requires.found c.requires.told (omega (arith, c.requires.some, c.requires.fit))) c.tell_some.ensures.opens

pub returns-in-ShortComment-clause-tells : goal.returns-in-ShortComment-clause-tells
returns-in-ShortComment-clause-tells c = tells_decided c.args.self.now _ c.args.faults.now c.tell_some.new.self (opens_told c.args.self.now c.args.region _ _ c.requires.state c.requires.markup c.requires.found c.requires.told (omega (arith, c.requires.some, c.requires.fit))) c.tell_some.ensures.opens

pub returns-in-StartTag-clause-tells : goal.returns-in-StartTag-clause-tells
returns-in-StartTag-clause-tells c = tells_decided c.args.self.now _ c.args.faults.now c.tell_some.new.self (opens_told c.args.self.now c.args.region _ _ c.requires.state c.requires.markup c.requires.found c.requires.told (omega (arith, c.requires.some, c.requires.fit))) c.tell_some.ensures.opens

pub returns-in-EndTag-clause-tells : goal.returns-in-EndTag-clause-tells
returns-in-EndTag-clause-tells c = tells_decided c.args.self.now _ c.args.faults.now c.tell_some.new.self (opens_told c.args.self.now c.args.region _ _ c.requires.state c.requires.markup c.requires.found c.requires.told (omega (arith, c.requires.some, c.requires.fit))) c.tell_some.ensures.opens

pub returns-in-Doctype-clause-tells : goal.returns-in-Doctype-clause-tells
returns-in-Doctype-clause-tells c = tells_decided c.args.self.now _ c.args.faults.now c.tell_some.new.self (opens_told c.args.self.now c.args.region _ _ c.requires.state c.requires.markup c.requires.found c.requires.told (omega (arith, c.requires.some, c.requires.fit))) c.tell_some.ensures.opens

pub returns-in-Literal-clause-tells : goal.returns-in-Literal-clause-tells
returns-in-Literal-clause-tells c =
    rw c.less_given.ensures.0 (tells_decided c.args.self.now _ c.args.faults.now c.tell_some.new.self (opens_told c.args.self.now c.args.region _ _ c.requires.state c.requires.markup c.requires.found c.requires.told (omega (arith, c.requires.some, c.requires.fit))) c.tell_some.ensures.opens)
