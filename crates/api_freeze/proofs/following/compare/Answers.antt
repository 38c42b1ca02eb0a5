use Rattle.std.proofs.Common.{◌∙◌, refl, ap, sym, map}
use Rattle.api_dump.specs.Dump.{seen}
use Rattle.compat_judge.specs.Seen.{seen as break_of}
use Rattle.api_freeze.proofs.Files.{same_dumps, other_dumps, not_empty, no_rows}
use Rattle.api_freeze.proofs.following.compare.Goals as goal

pub returns-then-are_same : goal.returns-then-are_same
returns-then-are_same c =
    record {
      answer = (
        refl,
        same_dumps c.as_slice.result.now c.args.files.now c.args.old.now.decls c.args.schema.now.decls c.are_same.result
            (ap (map seen) c.as_slice.ensures ∙ c.in_ok-before.ensures) c.requires c.are_same.ensures c.if-are_same.true,
      );
    }

pub returns-then-len-gt0 : goal.returns-then-len-gt0
returns-then-len-gt0 c =
    record {
      answer = (
        other_dumps c.as_slice.result.now c.args.files.now c.args.old.now.decls c.args.schema.now.decls c.are_same.result
            (ap (map seen) c.as_slice.ensures ∙ c.in_ok-before.ensures) c.requires c.are_same.ensures c.if-are_same.false,
        c.in_ok-broken.ensures.exact,
        not_empty c.in_ok-broken.broken c.len.result c.len.ensures c.if-len-gt0.true,
      );
    }

pub returns : goal.returns
returns c =
    record {
      answer = (
        other_dumps c.as_slice.result.now c.args.files.now c.args.old.now.decls c.args.schema.now.decls c.are_same.result
            (ap (map seen) c.as_slice.ensures ∙ c.in_ok-before.ensures) c.requires c.are_same.ensures c.if-are_same.false,
        sym c.in_ok-broken.ensures.exact ∙ ap (map break_of) (no_rows c.in_ok-broken.broken c.len.result c.len.ensures c.if-len-gt0.false),
      );
    }
