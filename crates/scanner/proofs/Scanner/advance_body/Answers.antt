-- `scanner::Scanner::advance_body` meets its contract. Assumes nothing.
use Rattle.scanner.proofs.Scanner.advance_body.Goals as goal

pub advance_lines-requires : goal.advance_lines-requires
advance_lines-requires c = (c.requires, (rw c.in-Some-Lax.field-0-is at c.in-Some-Lax.ensures) c.args.self.now.grammar)

pub advance_lines-requires-in-Some-Standard : goal.advance_lines-requires-in-Some-Standard
advance_lines-requires-in-Some-Standard c = (c.requires, (rw c.in-Some-Standard.field-0-is at c.in-Some-Standard.ensures) c.args.self.now.grammar)

pub advance_strict_lines-requires : goal.advance_strict_lines-requires
advance_strict_lines-requires c = (c.requires, (rw c.in-Some-Strict.field-0-is at c.in-Some-Strict.ensures) c.args.self.now.grammar)
