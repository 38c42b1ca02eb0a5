use Rattle.tree_files.proofs.lemmas.OneAnswer as files
use Rattle.type_check.proofs.lemmas.OneAnswer.{never}
use Rattle.dump_reading.proofs.lemmas.ReadBack.{back}
use Rattle.dump_reading.proofs.laws.law_dump_back.Goals as goal

pub returns : goal.returns
returns c =
    let S = c.args.schema.now.decls in let v = c.args.schema.now.valid in
    record {
      schema = back S v;
      unrefused = λ fs trees e p refusal differs r. never fs (λ a b h k. files.one-trees fs a b h.trees k.trees) (files.one-refusal fs) (files.never fs) S refusal differs (back S v fs trees e p) r;
    }
