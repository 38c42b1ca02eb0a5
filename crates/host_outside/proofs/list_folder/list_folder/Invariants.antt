use Rattle.std.proofs.Common.{◌+◌, ◌*◌, ◌-◌, vec_len}
use Rattle.host_outside.proofs.list_folder.list_folder.Given as goal

-- each round takes a folder, and each new one is counted
abbrev pub decreases-loop-folder : goal.decreases-loop-folder
decreases-loop-folder g l = 2 * (4194304 - l.walk.entries) + vec_len l.walk.folders
