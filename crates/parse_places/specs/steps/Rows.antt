-- What is expected behind a terminal, where a part begins with it.
use Rattle.std.specs.Prelude.{List, Option}
use Rattle.parse_places.specs.declared.terminal.Terminal.{Terminal}
use Rattle.parse_places.specs.declared.expected.Part.{Part}
use Rattle.parse_places.specs.declared.expected.Part.TheVariants as part
use Rattle.parse_places.specs.declared.expected.Expected.{Expected}
use Rattle.parse_places.specs.steps.Names.{package_row, import_row, dot_name_row, type_row, element_row, array_row}
use Rattle.parse_places.specs.steps.Expressions.{operand_row, operation_row, expression_row, initializer_row}
use Rattle.parse_places.specs.steps.Expressions.{initial_row, value_row, id_row}
use Rattle.parse_places.specs.steps.Annotations.{annotation_row, parameters_row, parameter_row, parameter_rest_row}
use Rattle.parse_places.specs.steps.Declarations.{enumerator_row, body_row, member_rest_row, member_row}
use Rattle.parse_places.specs.steps.Methods.{argument_rest_row, argument_row, oneway_rest_row}
use Rattle.parse_places.specs.steps.Methods.{interface_member_rest_row, interface_member_row}

unfoldable pub row : Part → Terminal → Option (List Expected)
row part.Package c = package_row c
row part.Import c = import_row c
row part.DotName c = dot_name_row c
row part.Type c = type_row c
row part.Element c = element_row c
row part.Array c = array_row c
row part.Operand c = operand_row c
row part.Operation c = operation_row c
row part.Expression c = expression_row c
row part.Initializer c = initializer_row c
row part.Initial c = initial_row c
row part.Value c = value_row c
row part.Id c = id_row c
row part.Annotation c = annotation_row c
row part.Parameters c = parameters_row c
row part.Parameter c = parameter_row c
row part.ParameterRest c = parameter_rest_row c
row part.Enumerator c = enumerator_row c
row part.Body c = body_row c
row part.MemberRest c = member_rest_row c
row part.Member c = member_row c
row part.ArgumentRest c = argument_rest_row c
row part.Argument c = argument_row c
row part.OnewayRest c = oneway_rest_row c
row part.InterfaceMemberRest c = interface_member_rest_row c
row part.InterfaceMember c = interface_member_row c
