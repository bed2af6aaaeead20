use Rattle.std.proofs.Common.{true, false, refl, sym}
use Rattle.html_tokens.specs.declared.doctype.DoctypePart.TheVariants as parts
use Rattle.html_tokens.specs.Doctype.{after_name, ids_of}
use Rattle.html_tokens.proofs.DoctypeLemmas.{read_one, read_closed, reads_space, reads_close, public_read, system_read, other_read}
use Rattle.html_tokens.proofs.InsideLemmas.{moves_after_name, moves_name_closed, moves_word, space_decides}
use Rattle.html_tokens.specs.declared.doctype.Keyword.TheVariants as keywords
use Rattle.html_tokens.proofs.doctype.DoctypeDraft.read_after_name.Goals as goal

pub returns-then-is_space-clause-reads : goal.returns-then-is_space-clause-reads
returns-then-is_space-clause-reads c =
    read_one c.args.self.now (record c.args.self.now { spaced = true }) c.args.input.now c.args.c c.requires.first c.requires.some
    (reads_space c.args.self.now parts.AfterName (after_name (ids_of c.args.self.now)) c.args.c c.requires.part (λ text. refl) (sym c.if-is_space.ensures))

pub returns-then-c-eq62-clause-reads : goal.returns-then-c-eq62-clause-reads
returns-then-c-eq62-clause-reads c =
    read_closed c.args.self.now c.args.self.now c.args.input.now _ c.args.c c.requires.first c.requires.some
    (reads_close c.args.self.now parts.AfterName (after_name (ids_of c.args.self.now)) _ c.args.c c.requires.part (λ text. refl) c.if-c-eq62.true (λ rest. refl))

pub returns-in-Some-Public-clause-reads : goal.returns-in-Some-Public-clause-reads
returns-in-Some-Public-clause-reads c =
    let found = rw c.in-Some-Public.field-0-is at c.in-Some-Public.ensures in
    public_read c.args.self.now c.args.input.now c.args.c c.requires.part c.requires.first c.requires.some (sym c.if-is_space.ensures) c.if-c-eq62.false found.0 found.1

pub returns-in-Some-System-clause-reads : goal.returns-in-Some-System-clause-reads
returns-in-Some-System-clause-reads c =
    let found = rw c.in-Some-System.field-0-is at c.in-Some-System.ensures in
    system_read c.args.self.now c.args.input.now c.args.c c.requires.part c.requires.first c.requires.some (sym c.if-is_space.ensures) c.if-c-eq62.false found.0 found.1

pub returns-in-Some-Other-clause-reads : goal.returns-in-Some-Other-clause-reads
returns-in-Some-Other-clause-reads c =
    let found = rw c.in-Some-Other.field-0-is at c.in-Some-Other.ensures in
    other_read c.args.self.now c.args.input.now c.args.c c.requires.part c.requires.first c.requires.some (sym c.if-is_space.ensures) c.if-c-eq62.false found.0

pub returns-then-is_space-clause-moves : goal.returns-then-is_space-clause-moves
returns-then-is_space-clause-moves c =
    let space = sym c.if-is_space.ensures in
    moves_after_name c.args.self.now (record c.args.self.now { spaced = true }) c.args.input.now c.args.c c.requires.part c.requires.first c.requires.some (λ e. let z = rw e at space in cc)
    (space_decides c.args.input.now c.args.c c.requires.first c.requires.some space) (rw space c.requires.part) (sym space)

pub returns-then-c-eq62-clause-moves : goal.returns-then-c-eq62-clause-moves
returns-then-c-eq62-clause-moves c = moves_name_closed c.args.self.now c.args.self.now c.args.input.now c.args.c c.requires.part c.requires.first c.requires.some c.if-c-eq62.true

pub returns-in-Some-Public-clause-moves : goal.returns-in-Some-Public-clause-moves
returns-in-Some-Public-clause-moves c =
    let found = rw c.in-Some-Public.field-0-is at c.in-Some-Public.ensures in
    moves_word c.args.self.now (record c.args.self.now { part = parts.BeforePublic; spaced = false }) c.args.input.now c.args.c keywords.Public c.requires.part c.requires.first found.1 (sym c.if-is_space.ensures) c.if-c-eq62.false found.0 refl refl refl

pub returns-in-Some-System-clause-moves : goal.returns-in-Some-System-clause-moves
returns-in-Some-System-clause-moves c =
    let found = rw c.in-Some-System.field-0-is at c.in-Some-System.ensures in
    moves_word c.args.self.now (record c.args.self.now { part = parts.BeforeSystem; spaced = false }) c.args.input.now c.args.c keywords.System c.requires.part c.requires.first found.1 (sym c.if-is_space.ensures) c.if-c-eq62.false found.0 refl refl refl

pub returns-in-Some-Other-clause-moves : goal.returns-in-Some-Other-clause-moves
returns-in-Some-Other-clause-moves c =
    let found = rw c.in-Some-Other.field-0-is at c.in-Some-Other.ensures in
    let no = sym c.if-is_space.ensures in
    moves_after_name c.args.self.now (record c.args.self.now { part = parts.BadRest true; spaced = false }) c.args.input.now c.args.c c.requires.part c.requires.first c.requires.some c.if-c-eq62.false found.0 (rw no refl) (sym no)
