use Rattle.witness_search.specs.steps.Seen.{spot_seen}
use Rattle.witness_search.proofs.SentBack.{new_type, old_type}
use Rattle.witness_search.proofs.ways.call_back.Goals as goal

pub default_reply-requires : goal.default_reply-requires
default_reply-requires c =
    new_type c.args.pair.now.old c.args.pair.now.new (spot_seen c.args.before.now) (spot_seen c.args.after.now) c.args.args.0.now c.args.args.1.now c.requires

pub default_reply-requires-then-is_in_way-2 : goal.default_reply-requires-then-is_in_way-2
default_reply-requires-then-is_in_way-2 c =
    old_type c.args.pair.now.old c.args.pair.now.new (spot_seen c.args.before.now) (spot_seen c.args.after.now) c.args.args.0.now c.args.args.1.now c.requires

pub sent_in_out-requires : goal.sent_in_out-requires
sent_in_out-requires c =
    new_type c.args.pair.now.old c.args.pair.now.new (spot_seen c.args.before.now) (spot_seen c.args.after.now) c.args.args.0.now c.args.args.1.now c.requires

pub sent_in_out-requires-2 : goal.sent_in_out-requires-2
sent_in_out-requires-2 c =
    old_type c.args.pair.now.old c.args.pair.now.new (spot_seen c.args.before.now) (spot_seen c.args.after.now) c.args.args.0.now c.args.args.1.now c.requires
