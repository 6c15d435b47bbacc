use Rattle.std.proofs.Common.{◌≡◌}
use Rattle.nesc_parse_exprs.proofs.expr_reader.ExprReader.primary_of.Goals as goal

pub returns-in-Word : goal.returns-in-Word
returns-in-Word g c = rw (c.in-Word.is) (c.name_leaf.ensures c.args.self.now.reader.spare)

pub returns-in-Number : goal.returns-in-Number
returns-in-Number g c = rw (c.in-Number.is) (c.number_leaf.ensures c.args.self.now.reader.spare)

pub returns-in-Char : goal.returns-in-Char
returns-in-Char g c = rw (c.in-Char.is) (c.char_leaf.ensures c.args.self.now.reader.spare)

pub returns-in-Null : goal.returns-in-Null
returns-in-Null g c = rw (c.in-Null.is) (c.null_leaf.ensures c.args.self.now.reader.spare)

pub returns-in-Unique : goal.returns-in-Unique
returns-in-Unique g c = rw (c.in-Unique.is) (c.unique.ensures c.args.self.now.reader.spare)

pub returns-in-Post : goal.returns-in-Post
returns-in-Post g c = rw (c.in-Post.is) (c.post_call.ensures c.args.self.now.reader.spare)
