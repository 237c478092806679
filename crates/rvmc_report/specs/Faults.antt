-- The faults of the program.
use Rattle.std.specs.Prelude.{ℕ}
use Rattle.cl_debug.specs.declared.faults.DebugFault.{DebugFault}
use Rattle.cl_debug.specs.declared.faults.DebugFault.TheVariants as debug
use Rattle.rv_asm_tokens.specs.declared.fault.AsmFault.{AsmFault}
use Rattle.rv_asm_tokens.specs.declared.fault.AsmFaultKind.{AsmFaultKind}
use Rattle.rv_asm_tokens.specs.declared.fault.AsmFaultKind.TheVariants as kinds
use Rattle.rv_image.specs.declared.faults.ImageFault.{ImageFault}
use Rattle.rv_image.specs.declared.faults.ImageFault.TheVariants as image
use Rattle.rvmc_report.specs.declared.faults.Fault.{Fault}
use Rattle.rvmc_report.specs.declared.faults.Fault.TheVariants.{Source, Image, Record, Plans, Unlike, Debug, Memory}
use Rattle.rvmc_report.specs.declared.faults.Fault.TheVariants.{Draw, Explore, List as ListFaulty, Page, Report, Spawn, Read}
use Rattle.rvmc_report.specs.declared.faults.Fault.TheVariants.{Why, Write}

-- 1 for a fault of the input, 5 for memory or a thread, 6 for reads and writes
abbrev pub fault_status : Fault → ℕ
fault_status (Source fault) = 1
fault_status (Image fault) = 1
fault_status (Record fault) = 1
fault_status Plans = 1
fault_status (Unlike rank place) = 1
fault_status (Debug fault) = 1
fault_status (Why fault) = 1
fault_status (Report n) = 1
fault_status (ListFaulty fault) = 1
fault_status (Draw fault) = 1
fault_status (Page fault) = 1
fault_status (Explore fault) = 1
fault_status Memory = 5
fault_status Spawn = 5
fault_status Read = 6
fault_status Write = 6

-- want of memory is no fault of the input
abbrev pub fault_of_kind : AsmFaultKind → AsmFault → Fault
fault_of_kind kinds.Memory fault = Memory
fault_of_kind other fault = Source fault

abbrev pub fault_of_source : AsmFault → Fault
fault_of_source fault = fault_of_kind fault.kind fault

abbrev pub fault_of_image : ImageFault → Fault
fault_of_image image.Memory = Memory
fault_of_image fault = Image fault

abbrev pub fault_of_debug : DebugFault → Fault
fault_of_debug debug.Memory = Memory
fault_of_debug fault = Debug fault
