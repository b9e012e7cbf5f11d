-- Why a call gets no reply, if the keeper gave an error.
use Rattle.keeper.specs.declared.failed.KeepError.{KeepError}
use Rattle.keeper.specs.declared.failed.KeepError.TheVariants.{NoMemory, Failed}
use Rattle.account_core.specs.declared.calls.StepError.{StepError}
use Rattle.account_core.specs.declared.calls.StepError.TheVariants.{NoMemory as no_memory, Store}

abbrev pub step_error : KeepError → StepError
step_error NoMemory = no_memory
step_error Failed = Store
