-- What contracts see of the judge's answer.
use Rattle.compat_judge.specs.declared.judging.Broken.{Broken}
use Rattle.aidl_schema.specs.Broken.{Break}

-- a row as the number of its rule beside its place
abbrev pub seen : Broken → Break
seen b = (b.rule, b.place)
