-- The laws of each production: a stack runs over the tokens of a form, and what it runs over is of the form.
pub mod AnnotationLaws
pub mod DeclLaws
pub mod ExpressionLaws
pub mod FileLaws
pub mod Laws
pub mod Lists
pub mod MemberLaws
pub mod MethodLaws
pub mod TypeLaws
