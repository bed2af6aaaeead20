use Rattle.html_tokens.proofs.copied.Copied.front.Goals as goal

pub returns-in-DoubleQuoted-clause-passes : goal.returns-in-DoubleQuoted-clause-passes
returns-in-DoubleQuoted-clause-passes c = rw c.in-DoubleQuoted.is c.front_without.ensures.passes

pub returns-in-SingleQuoted-clause-passes : goal.returns-in-SingleQuoted-clause-passes
returns-in-SingleQuoted-clause-passes c = rw c.in-SingleQuoted.is c.front_without-in-SingleQuoted.ensures.passes

pub returns-in-Comment-clause-passes : goal.returns-in-Comment-clause-passes
returns-in-Comment-clause-passes c = rw c.in-Comment.is c.front_without-in-Comment.ensures.passes
