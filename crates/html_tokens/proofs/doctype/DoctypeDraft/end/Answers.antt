use Rattle.std.proofs.Common.{refl}
use Rattle.html_tokens.specs.declared.doctype.DoctypePart.TheVariants as parts
use Rattle.html_tokens.specs.Doctype.{ids_of, name_or_end, after_name, wanted_public, after_public, wanted_system, after_system}
use Rattle.html_tokens.proofs.DoctypeLemmas.{rest_ends, name_none, public_none, system_none, reads_end}
use Rattle.html_tokens.proofs.doctype.DoctypeDraft.end.Goals as goal

pub returns-in-BadRest : goal.returns-in-BadRest
returns-in-BadRest c = rest_ends c.args.self.now c.in-BadRest.force_quirks c.in-BadRest.is

pub returns-in_ok-self-in-Name : goal.returns-in_ok-self-in-Name
returns-in_ok-self-in-Name c = rw (c.in_ok-self-in-Name.ensures.text, c.take_text.ensures.rest) (name_none c.args.self.now c.in-Name.is, refl)

pub returns-in_ok-self-in-Public : goal.returns-in_ok-self-in-Public
returns-in_ok-self-in-Public c = rw (c.in_ok-self-in-Public.ensures.text, c.take_text-in-Public.ensures.rest) (public_none c.args.self.now c.in-Public.field-0 c.in-Public.is, refl)

pub returns-in_ok-self-in-System : goal.returns-in_ok-self-in-System
returns-in_ok-self-in-System c = rw (c.in_ok-self-in-System.ensures.text, c.take_text-in-System.ensures.rest) (system_none c.args.self.now c.in-System.field-0 c.in-System.is, refl)

pub returns-in-BeforeName : goal.returns-in-BeforeName
returns-in-BeforeName c = reads_end c.args.self.now parts.BeforeName (name_or_end (ids_of c.args.self.now)) c.in-BeforeName.is (λ text. refl) refl

pub returns-in-AfterName : goal.returns-in-AfterName
returns-in-AfterName c = reads_end c.args.self.now parts.AfterName (after_name (ids_of c.args.self.now)) c.in-AfterName.is (λ text. refl) refl

pub returns-in-BeforePublic : goal.returns-in-BeforePublic
returns-in-BeforePublic c = reads_end c.args.self.now parts.BeforePublic (wanted_public (ids_of c.args.self.now)) c.in-BeforePublic.is (λ text. refl) refl

pub returns-in-AfterPublic : goal.returns-in-AfterPublic
returns-in-AfterPublic c = reads_end c.args.self.now parts.AfterPublic (after_public (ids_of c.args.self.now)) c.in-AfterPublic.is (λ text. refl) refl

pub returns-in-BeforeSystem : goal.returns-in-BeforeSystem
returns-in-BeforeSystem c = reads_end c.args.self.now parts.BeforeSystem (wanted_system (ids_of c.args.self.now)) c.in-BeforeSystem.is (λ text. refl) refl

pub returns-in-AfterSystem : goal.returns-in-AfterSystem
returns-in-AfterSystem c = reads_end c.args.self.now parts.AfterSystem (after_system (ids_of c.args.self.now)) c.in-AfterSystem.is (λ text. refl) refl
