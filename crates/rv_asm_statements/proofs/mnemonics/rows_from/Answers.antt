use Rattle.rv_asm_statements.proofs.Alike.{uses_begun, named_begun}
use Rattle.rv_asm_statements.proofs.mnemonics.rows_from.Goals as goal

pub returns-in-97-clause-uses : goal.returns-in-97-clause-uses
returns-in-97-clause-uses c = λ xs. uses_begun c.args.letter 97 c.in-97.is c.args.behind.now xs

pub returns-in-97-clause-named : goal.returns-in-97-clause-named
returns-in-97-clause-named c = named_begun c.args.letter 97 c.in-97.is c.args.behind.now

pub returns-in-98-clause-uses : goal.returns-in-98-clause-uses
returns-in-98-clause-uses c = λ xs. uses_begun c.args.letter 98 c.in-98.is c.args.behind.now xs

pub returns-in-98-clause-named : goal.returns-in-98-clause-named
returns-in-98-clause-named c = named_begun c.args.letter 98 c.in-98.is c.args.behind.now

pub returns-in-100-clause-uses : goal.returns-in-100-clause-uses
returns-in-100-clause-uses c = λ xs. uses_begun c.args.letter 100 c.in-100.is c.args.behind.now xs

pub returns-in-100-clause-named : goal.returns-in-100-clause-named
returns-in-100-clause-named c = named_begun c.args.letter 100 c.in-100.is c.args.behind.now

pub returns-in-101-clause-uses : goal.returns-in-101-clause-uses
returns-in-101-clause-uses c = λ xs. uses_begun c.args.letter 101 c.in-101.is c.args.behind.now xs

pub returns-in-101-clause-named : goal.returns-in-101-clause-named
returns-in-101-clause-named c = named_begun c.args.letter 101 c.in-101.is c.args.behind.now

pub returns-in-102-clause-uses : goal.returns-in-102-clause-uses
returns-in-102-clause-uses c = λ xs. uses_begun c.args.letter 102 c.in-102.is c.args.behind.now xs

pub returns-in-102-clause-named : goal.returns-in-102-clause-named
returns-in-102-clause-named c = named_begun c.args.letter 102 c.in-102.is c.args.behind.now

pub returns-in-106-clause-uses : goal.returns-in-106-clause-uses
returns-in-106-clause-uses c = λ xs. uses_begun c.args.letter 106 c.in-106.is c.args.behind.now xs

pub returns-in-106-clause-named : goal.returns-in-106-clause-named
returns-in-106-clause-named c = named_begun c.args.letter 106 c.in-106.is c.args.behind.now

pub returns-in-108-clause-uses : goal.returns-in-108-clause-uses
returns-in-108-clause-uses c = λ xs. uses_begun c.args.letter 108 c.in-108.is c.args.behind.now xs

pub returns-in-108-clause-named : goal.returns-in-108-clause-named
returns-in-108-clause-named c = named_begun c.args.letter 108 c.in-108.is c.args.behind.now

pub returns-in-109-clause-uses : goal.returns-in-109-clause-uses
returns-in-109-clause-uses c = λ xs. uses_begun c.args.letter 109 c.in-109.is c.args.behind.now xs

pub returns-in-109-clause-named : goal.returns-in-109-clause-named
returns-in-109-clause-named c = named_begun c.args.letter 109 c.in-109.is c.args.behind.now

pub returns-in-110-clause-uses : goal.returns-in-110-clause-uses
returns-in-110-clause-uses c = λ xs. uses_begun c.args.letter 110 c.in-110.is c.args.behind.now xs

pub returns-in-110-clause-named : goal.returns-in-110-clause-named
returns-in-110-clause-named c = named_begun c.args.letter 110 c.in-110.is c.args.behind.now

pub returns-in-111-clause-uses : goal.returns-in-111-clause-uses
returns-in-111-clause-uses c = λ xs. uses_begun c.args.letter 111 c.in-111.is c.args.behind.now xs

pub returns-in-111-clause-named : goal.returns-in-111-clause-named
returns-in-111-clause-named c = named_begun c.args.letter 111 c.in-111.is c.args.behind.now

pub returns-in-114-clause-uses : goal.returns-in-114-clause-uses
returns-in-114-clause-uses c = λ xs. uses_begun c.args.letter 114 c.in-114.is c.args.behind.now xs

pub returns-in-114-clause-named : goal.returns-in-114-clause-named
returns-in-114-clause-named c = named_begun c.args.letter 114 c.in-114.is c.args.behind.now

pub returns-in-120-clause-uses : goal.returns-in-120-clause-uses
returns-in-120-clause-uses c = λ xs. uses_begun c.args.letter 120 c.in-120.is c.args.behind.now xs

pub returns-in-120-clause-named : goal.returns-in-120-clause-named
returns-in-120-clause-named c = named_begun c.args.letter 120 c.in-120.is c.args.behind.now

pub returns-in-115-clause-uses : goal.returns-in-115-clause-uses
returns-in-115-clause-uses c = λ xs. rw c.in-115.is (c.s_rows.ensures.uses xs)

pub returns-in-115-clause-named : goal.returns-in-115-clause-named
returns-in-115-clause-named c = rw c.in-115.is c.s_rows.ensures.named
