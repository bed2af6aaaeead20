use Rattle.html_tokens.proofs.ValueLemmas.{codes_read_from, few_read_from, literal_read_from, unknown_read_from, number_pushed}
use Rattle.html_tokens.proofs.PartLemmas.{codes_move, few_move, literal_move, numeric_move, unknown_move}
use Rattle.std.proofs.Common.{refl}
use Rattle.html_tokens.proofs.tag.TagDraft.take_ref.Goals as goal

pub returns-in-Numeric-clause-ok : goal.returns-in-Numeric-clause-ok
returns-in-Numeric-clause-ok c = number_pushed c.args.self.now c.begin_number.new.self c.args.found c.in-Numeric.base _ c.args.place c.in-Numeric.is c.requires.inside c.begin_number.ensures.number

pub returns-in_ok-push_codes-in-Letters-clause-ok : goal.returns-in_ok-push_codes-in-Letters-clause-ok
returns-in_ok-push_codes-in-Letters-clause-ok c =
    unknown_read_from c.args.self.now c.push_codes.new.self c.begin_letters.new.self c.args.found c.args.place c.in-Letters.is c.requires.inside c.in_ok-push_codes-in-Letters.ensures.ok c.begin_letters.ensures.letters

pub returns-in-Codes-clause-ok : goal.returns-in-Codes-clause-ok
returns-in-Codes-clause-ok c = codes_read_from c.push_codes-in-Codes.result c.args.self.now c.push_codes-in-Codes.new.self c.args.found _ c.in-Codes.first c.in-Codes.second c.in-Codes.is c.requires.inside c.push_codes-in-Codes.ensures.ok

pub returns-in-Numeric-clause-moves : goal.returns-in-Numeric-clause-moves
returns-in-Numeric-clause-moves c =
    numeric_move c.args.self.now.part c.begin_number.new.self.part c.args.found c.args.place c.in-Numeric.base _ c.in-Numeric.is c.requires.inside (λ end p. rw (c.begin_number.ensures.number end p) refl)

pub returns-in_ok-push_codes-in-Letters-clause-moves : goal.returns-in_ok-push_codes-in-Letters-clause-moves
returns-in_ok-push_codes-in-Letters-clause-moves c =
    unknown_move c.args.self.now.part c.push_codes.new.self.part c.begin_letters.new.self.part c.args.found c.args.place c.in-Letters.is c.requires.inside (rw c.in_ok-push_codes-in-Letters.ensures.ok refl)
    (λ end p. rw (c.begin_letters.ensures.letters end p) refl)

pub returns-in-Codes-clause-moves : goal.returns-in-Codes-clause-moves
returns-in-Codes-clause-moves c =
    codes_move c.push_codes-in-Codes.result c.args.self.now c.push_codes-in-Codes.new.self c.args.found c.args.place _ _ c.in-Codes.first c.in-Codes.second c.in-Codes.is c.requires.inside c.push_codes-in-Codes.ensures.ok

pub returns-in-Literal-clause-ok : goal.returns-in-Literal-clause-ok
returns-in-Literal-clause-ok c = literal_read_from c.push_codes-in-Literal.result c.args.self.now c.push_codes-in-Literal.new.self c.args.found c.in-Literal.is c.requires.inside c.push_codes-in-Literal.ensures.ok

pub returns-in-Literal-clause-moves : goal.returns-in-Literal-clause-moves
returns-in-Literal-clause-moves c = literal_move c.push_codes-in-Literal.result c.args.self.now c.push_codes-in-Literal.new.self c.args.found c.args.place _ c.in-Literal.is c.requires.inside c.push_codes-in-Literal.ensures.ok

pub returns-in-Unknown-clause-ok : goal.returns-in-Unknown-clause-ok
returns-in-Unknown-clause-ok c = few_read_from c.push_codes-in-Unknown.result c.args.self.now c.push_codes-in-Unknown.new.self c.args.found c.in-Unknown.is c.requires.inside c.push_codes-in-Unknown.ensures.ok

pub returns-in-Unknown-clause-moves : goal.returns-in-Unknown-clause-moves
returns-in-Unknown-clause-moves c = few_move c.push_codes-in-Unknown.result c.args.self.now c.push_codes-in-Unknown.new.self c.args.found c.args.place _ c.in-Unknown.is c.requires.inside c.push_codes-in-Unknown.ensures.ok
