use Rattle.std.proofs.Common.{inl, inr}
use Rattle.wire_model.specs.Outcome.{OneFollows}
use Rattle.wire_model.specs.steps.Meets.{Meets}
use Rattle.wire_model.proofs.viewed.Meeting.{newer_reads, older_reads}
use Rattle.wire_model.proofs.laws.law_meets.Goals as goal

pub returns : goal.returns
returns c = by_order
  where
    by_order : OneFollows c.args.a.now.decls c.args.b.now.decls → Meets c.args.a.now.decls c.args.b.now.decls
    by_order (inl none) = newer_reads c.args.a.now.decls c.args.b.now.decls c.law_valid-2.ensures.apart (c.law_unbroken.ensures.0 none)
        c.law_valid.ensures.declarations c.law_valid-2.ensures.declarations c.law_sound.ensures c.law_sound-2.ensures
    by_order (inr none) = older_reads c.args.b.now.decls c.args.a.now.decls c.law_valid.ensures.apart (c.law_unbroken-2.ensures.0 none)
        c.law_valid-2.ensures.declarations c.law_valid.ensures.declarations c.law_sound-2.ensures c.law_sound.ensures c.law_same_types.ensures.back
