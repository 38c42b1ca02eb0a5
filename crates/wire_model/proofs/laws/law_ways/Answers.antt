use Rattle.std.proofs.Common.{inl, inr}
use Rattle.wire_model.specs.Outcome.{OneFollows, SameWays}
use Rattle.wire_model.proofs.calls.Methods.{newer_ways, older_ways}
use Rattle.wire_model.proofs.laws.law_ways.Goals as goal

pub returns : goal.returns
returns c = by_order
  where
    by_order : OneFollows c.args.a.now.decls c.args.b.now.decls → SameWays c.args.a.now.decls c.args.b.now.decls
    by_order (inl none) = newer_ways c.args.a.now.decls c.args.b.now.decls c.law_valid-2.ensures.apart c.law_valid-2.ensures.declarations (c.law_unbroken.ensures.0 none)
    by_order (inr none) = older_ways c.args.b.now.decls c.args.a.now.decls c.law_valid.ensures.apart c.law_valid.ensures.declarations (c.law_unbroken-2.ensures.0 none)
