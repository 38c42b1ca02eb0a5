mod LeftShift
mod Numbers
